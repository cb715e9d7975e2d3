-- A level cut at the leftmost of its weakest operators is the value of the spine, where that operator is xfy or fy.
use Rattle.std.proofs.Common.{◌≡◌, ℕ, ◌<◌, ◌≤◌, Bool, true, false, cond, List, [], ◌∷◌, refl, ap, ◌∙◌, arith}
use Rattle.std.specs.Prelude.{Option, Some, None, option_and_then, ◌&&◌, nat_eq, nat_lt}
use Rattle.std.proofs.lemmas.Bool.Decides.{nat_tests}
use Rattle.plai_reader.specs.declared.operator.Operator.{Operator}
use Rattle.plai_reader.specs.Kinds.{leans_right}
use Rattle.plai_reader.specs.Level.{Builder, Link, greatest, Cut, later, leftmost}
use Rattle.plai_reader.specs.Climb.{holds}
use Rattle.plai_reader.proofs.Spine.{Place, Spine, leaf, node, joined, value, enter, enter_all, fresh, enter-held, enter-free}

module _ {T : Type 0} (build : Builder T) where
  -- every link is below the priority
  abbrev pub AllBelow : ℕ → List (Link T) → Type 0
  AllBelow g [] = Unit {0}
  AllBelow g (l ∷ ls) = (l.operator.priority < g) × AllBelow g ls

  pub AllBelow-greatest : (g : ℕ) (ls : List (Link T)) → AllBelow g ls → 0 < g → greatest ls < g
  AllBelow-greatest g [] h p = p
  AllBelow-greatest g (l ∷ ls) h p =
      let q = AllBelow-greatest g ls h.1 p in
      let r : l.operator.priority < g = h.0 in
      omega arith

  -- every link is held by the operator
  abbrev pub Held : Operator → List (Link T) → Type 0
  Held w [] = Unit {0}
  Held w (l ∷ ls) = (holds w l.operator ≡ true) × Held w ls

  test_below : (a b : ℕ) (s : Bool) → b < a → cond (nat_lt b a) true (nat_eq b a && s) ≡ true
  test_below a b true p = grind (arith, nat_tests)
  test_below a b false p = grind (arith, nat_tests)

  test_up_to : (a b : ℕ) → b ≤ a → cond (nat_lt b a) true (nat_eq b a && true) ≡ true
  test_up_to a b p = grind (arith, nat_tests)

  test_above : (a b : ℕ) (s : Bool) → a < b → cond (nat_lt b a) true (nat_eq b a && s) ≡ false
  test_above a b true p = grind (arith, nat_tests)
  test_above a b false p = grind (arith, nat_tests)

  test_equal : (a b : ℕ) → a ≡ b → cond (nat_lt b a) true (nat_eq b a && false) ≡ false
  test_equal a b p = grind (arith, nat_tests)

  pub test_free : (a b : ℕ) (s : Bool) → cond (nat_lt b a) true (nat_eq b a && s) ≡ false → a ≤ b
  test_free a b true p = grind (arith, nat_tests)
  test_free a b false p = grind (arith, nat_tests)

  holds-right : (w n : Operator) → leans_right w.kind ≡ true → n.priority ≤ w.priority → holds w n ≡ true
  holds-right w n e p = ap (λ s. cond (nat_lt n.priority w.priority) true (nat_eq n.priority w.priority && s)) e ∙ test_up_to w.priority n.priority p

  pub holds-equal : (w n : Operator) → leans_right w.kind ≡ false → w.priority ≡ n.priority → holds w n ≡ false
  holds-equal w n e p = ap (λ s. cond (nat_lt n.priority w.priority) true (nat_eq n.priority w.priority && s)) e ∙ test_equal w.priority n.priority p

  Held-right : (w : Operator) (ls : List (Link T)) → leans_right w.kind ≡ true → greatest ls ≤ w.priority → Held w ls
  Held-right w [] e p = tt
  Held-right w (l ∷ ls) e p = (holds-right w l.operator e (omega arith), Held-right w ls e (omega arith))

  pub Held-below : (w : Operator) (ls : List (Link T)) → AllBelow w.priority ls → Held w ls
  Held-below w [] h = tt
  Held-below w (l ∷ ls) h = (test_below w.priority l.operator.priority (leans_right w.kind) h.0, Held-below w ls h.1)

  enter_all-held : (v : Option (Place T)) (w : Operator) (s : Spine T) (ls : List (Link T)) → Held w ls
      → enter_all build (node v w s) ls ≡ node v w (enter_all build s ls)
  enter_all-held v w s [] h = refl
  enter_all-held v w s (l ∷ ls) h = ap (λ t. enter_all build t ls) (enter-held build l v w s h.0) ∙ enter_all-held v w (enter build l s) ls h.1

  -- the root is below the priority
  abbrev pub RootBelow : ℕ → Spine T → Type 0
  RootBelow g (leaf p) = Unit {0}
  RootBelow g (node v o r) = o.priority < g

  pub enter-below : (g : ℕ) (n : Link T) (s : Spine T) → RootBelow g s → g ≤ n.operator.priority → enter build n s ≡ fresh build (value build s) n
  enter-below g n (leaf p) h e = refl
  enter-below g n (node v o r) h e =
      enter-free build n v o r (test_above o.priority n.operator.priority (leans_right o.kind) (omega arith))

  pub RootBelow-enter : (g : ℕ) (n : Link T) (s : Spine T) → RootBelow g s → n.operator.priority < g → RootBelow g (enter build n s)
  RootBelow-enter g n (leaf p) h e = e
  RootBelow-enter g n (node v o r) h e =
      elim (holds o n.operator) as (λ b. RootBelow g (cond b (node v o (enter build n r)) (fresh build (joined build o v (value build r)) n)))
      [ true ↦ h | false ↦ e ]

  -- the tree of a cut, whose left side begins with the spine
  abbrev pub parts : Spine T → Cut T → Option (Place T)
  parts s c = joined build c.link.operator (value build (enter_all build s c.before)) (value build (enter_all build (leaf c.link.place) c.after))

  abbrev pub here : Link T → List (Link T) → Cut T
  here l ls = record { before = []; link = l; after = ls }

  -- at an operator that the root doesn't hold, and that holds all that follow
  pub cut-here : (s : Spine T) (l : Link T) (ls : List (Link T)) → enter build l s ≡ fresh build (value build s) l → Held l.operator ls
      → value build (enter_all build s (l ∷ ls)) ≡ parts s (here l ls)
  cut-here s l ls e h = ap (λ t. value build (enter_all build t ls)) e ∙ ap (value build) (enter_all-held (value build s) l.operator (leaf l.place) ls h)

  -- the leftmost
  abbrev pub LeftClaim : ℕ → Spine T → List (Link T) → Option (Cut T) → Type 0
  LeftClaim g s ls None = AllBelow g ls
  LeftClaim g s ls (Some c) = leans_right c.link.operator.kind ≡ true → value build (enter_all build s ls) ≡ parts s c

  left-later : (g : ℕ) (s : Spine T) (l : Link T) (ls : List (Link T)) (o : Option (Cut T)) → l.operator.priority < g → LeftClaim g (enter build l s) ls o
      → LeftClaim g s (l ∷ ls) (option_and_then (λ c. Some (later l c)) o)
  left-later g s l ls None p h = (p, h)
  left-later g s l ls (Some c) p h = h

  pub eq_true : (a b : ℕ) → nat_eq a b ≡ true → a ≡ b
  eq_true a b e = grind (arith, nat_tests)

  pub eq_false : (a b : ℕ) → nat_eq a b ≡ false → a ≤ b → a < b
  eq_false a b e p = grind (arith, nat_tests)

  pub left-is : (g : ℕ) (s : Spine T) (ls : List (Link T)) → RootBelow g s → greatest ls ≤ g → LeftClaim g s ls (leftmost g ls)
  left-is g s [] r m = tt
  left-is g s (l ∷ ls) r m =
      let goal : Bool → Type 0 = λ b. nat_eq l.operator.priority g ≡ b
      → LeftClaim g s (l ∷ ls) (cond b (Some (here l ls)) (option_and_then (λ c. Some (later l c)) (leftmost g ls))) in
      let split : goal (nat_eq l.operator.priority g) = elim (nat_eq l.operator.priority g) as goal [
        | true ↦ λ e k.
            let p = eq_true l.operator.priority g e in
            cut-here s l ls (enter-below g l s r (omega arith)) (Held-right l.operator ls k (omega arith))
        | false ↦ λ e.
            let p = eq_false l.operator.priority g e (omega arith) in
            left-later g s l ls (leftmost g ls) p (left-is g (enter build l s) ls (RootBelow-enter g l s r p) (omega arith))
      ] in
      split refl
