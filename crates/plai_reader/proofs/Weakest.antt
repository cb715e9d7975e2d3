-- The tree by the weakest operator is the value of the spine.
use Rattle.std.proofs.Common.{◌≡◌, ℕ, zero, suc, ◌+◌, ◌<◌, ◌≤◌, Bool, true, false, cond, ◌⊎◌, inl, inr, List, [], ◌∷◌, ◌++◌, length, refl, ap, sym, ◌∙◌}
use Rattle.std.proofs.Common.{subst, arith}
use Rattle.std.specs.Prelude.{Option, Some, None, option_and_then, nat_eq, nat_lt}
use Rattle.std.proofs.lemmas.Bool.Decides.{nat_tests}
use Rattle.plai_reader.specs.declared.operator.OpKind.{OpKind}
use Rattle.plai_reader.specs.declared.operator.OpKind.TheVariants.{Xfx, Xfy, Yfx, Fx, Fy, Xf, Yf}
use Rattle.plai_reader.specs.declared.operator.Operator.{Operator}
use Rattle.plai_reader.specs.declared.level.Operand.{Operand}
use Rattle.plai_reader.specs.declared.operator.Side.TheVariants.{Below}
use Rattle.plai_reader.specs.Kinds.{left_of, right_of, leans_right}
use Rattle.plai_reader.specs.Level.{Builder, Link, taken, greatest, Cut, later, leftmost, or_else, rightmost, weakest, tree_within}
use Rattle.plai_reader.specs.Climb.{holds}
use Rattle.plai_reader.proofs.Spine.{Place, Spine, leaf, node, joined, value, enter, enter_all, fresh, enter-free}
use Rattle.plai_reader.proofs.Leftmost.{AllBelow, AllBelow-greatest, test_free, holds-equal, Held-below, RootBelow, enter-below, RootBelow-enter, parts, here}
use Rattle.plai_reader.proofs.Leftmost.{cut-here, LeftClaim, eq_true, eq_false, left-is}

module _ {T : Type 0} (build : Builder T) where
  -- a root that can't be applied, whatever comes on its right
  abbrev pub Lost : Spine T → Type 0
  Lost (leaf p) = ⊥
  Lost (node v o r) = (after : Option (Place T)) → joined build o v after ≡ None

  joined-none : (o : Operator) (before after : Option (Place T)) → before ≡ None → joined build o before after ≡ None
  joined-none o before after e = ap (λ v. joined build o v after) e

  Lost-enter : (n : Link T) (s : Spine T) → Lost s → Lost (enter build n s)
  Lost-enter n (leaf p) h = absurd h
  Lost-enter n (node v o r) h =
      elim (holds o n.operator) as (λ b. Lost (cond b (node v o (enter build n r)) (fresh build (joined build o v (value build r)) n)))
      [ true ↦ h | false ↦ λ after. joined-none n.operator (joined build o v (value build r)) after (h (value build r)) ]

  Lost-value : (s : Spine T) → Lost s → value build s ≡ None
  Lost-value (leaf p) h = absurd h
  Lost-value (node v o r) h = h (value build r)

  Lost-enter_all : (s : Spine T) (ls : List (Link T)) → Lost s → value build (enter_all build s ls) ≡ None
  Lost-enter_all s [] h = Lost-value s h
  Lost-enter_all s (l ∷ ls) h = Lost-enter_all (enter build l s) ls (Lost-enter l s h)

  -- a tree made by an operator has its priority
  abbrev MadeBy : Operator → Option (Place T) → Type 0
  MadeBy o None = Unit {0}
  MadeBy o (Some None) = ⊥
  MadeBy o (Some (Some x)) = x.priority ≡ o.priority

  joined-made : (o : Operator) (before after : Option (Place T)) → MadeBy o (joined build o before after)
  joined-made o None after = tt
  joined-made o (Some left) None = tt
  joined-made o (Some left) (Some right) =
      elim (taken (left_of o.kind) o.priority left) as (λ t. MadeBy o (option_and_then (λ before. option_and_then (λ after.
      Some (Some (record { tree = build.compound o.name (before ++ after); priority = o.priority }))) (taken (right_of o.kind) o.priority right)) t)) [
        | None ↦ tt
        | Some xs ↦ elim (taken (right_of o.kind) o.priority right) as (λ t. MadeBy o (option_and_then (λ after.
            Some (Some (record { tree = build.compound o.name (xs ++ after); priority = o.priority }))) t)) [ None ↦ tt | Some ys ↦ refl ]
      ]

  not_below : (p : ℕ) (x : Operand T) → x.priority ≡ p → taken Below p (Some x) ≡ None
  not_below p x e =
      let t : nat_lt x.priority p ≡ false = grind (arith, nat_tests) in
      ap (λ b. cond b (Some (x.tree ∷ [])) None) t

  -- xfy and fy take no tree of their own priority on the left
  not_taken : (k : OpKind) (p : ℕ) (x : Operand T) → leans_right k ≡ true → x.priority ≡ p → taken (left_of k) p (Some x) ≡ None
  not_taken Xfx p x k e = cc
  not_taken Xfy p x k e = not_below p x e
  not_taken Yfx p x k e = cc
  not_taken Fx p x k e = cc
  not_taken Fy p x k e = refl
  not_taken Xf p x k e = cc
  not_taken Yf p x k e = cc

  refused : (o w : Operator) (made : Option (Place T)) → MadeBy o made → o.priority ≡ w.priority → leans_right w.kind ≡ true
      → (after : Option (Place T)) → joined build w made after ≡ None
  refused o w None m e k after = refl
  refused o w (Some None) m e k after = absurd m
  refused o w (Some (Some x)) m e k None = refl
  refused o w (Some (Some x)) m e k (Some right) =
      ap (λ t. option_and_then (λ before. option_and_then (λ after.
      Some (Some (record { tree = build.compound w.name (before ++ after); priority = w.priority }))) (taken (right_of w.kind) w.priority right)) t)
      (not_taken w.kind w.priority x k (m ∙ e))

  -- The root has the priority, and isn't xfy or fy, or can't be applied.
  abbrev Settled : ℕ → Spine T → Type 0
  Settled g (leaf p) = ⊥
  Settled g (node v o r) = (o.priority ≡ g) × ((leans_right o.kind ≡ false) ⊎ Lost (node v o r))

  Settled-fresh : (g : ℕ) (s : Spine T) (l : Link T) → Settled g s → l.operator.priority ≡ g → Settled g (fresh build (value build s) l)
  Settled-fresh g (leaf p) l h e = absurd h
  Settled-fresh g (node v o r) l h e =
      let goal : Bool → Type 0 = λ b. leans_right l.operator.kind ≡ b → Settled g (fresh build (joined build o v (value build r)) l) in
      let split : goal (leans_right l.operator.kind) = elim (leans_right l.operator.kind) as goal [
        | true ↦ λ k. (e, inr (refused o l.operator (joined build o v (value build r)) (joined-made o v (value build r)) (h.0 ∙ sym e) k))
        | false ↦ λ k. (e, inl k)
      ] in
      split refl

  Settled-enter : (g : ℕ) (l : Link T) (s : Spine T) → Settled g s → l.operator.priority ≤ g → Settled g (enter build l s)
  Settled-enter g l (leaf p) h e = absurd h
  Settled-enter g l (node v o r) h e =
      let goal : Bool → Type 0 = λ b. holds o l.operator ≡ b
      → Settled g (cond b (node v o (enter build l r)) (fresh build (joined build o v (value build r)) l)) in
      let split : goal (holds o l.operator) = elim (holds o l.operator) as goal [
        | true ↦ λ k. h
        | false ↦ λ k.
            let p = test_free build o.priority l.operator.priority (leans_right o.kind) k in
            let q = h.0 in
            Settled-fresh g (node v o r) l h (omega arith)
      ] in
      split refl

  -- the rightmost
  abbrev RightClaim : ℕ → Spine T → List (Link T) → Option (Cut T) → Type 0
  RightClaim g s ls None = AllBelow build g ls
  RightClaim g s ls (Some c) = value build (enter_all build s ls) ≡ parts build s c

  settled-here : (g : ℕ) (s : Spine T) (l : Link T) (ls : List (Link T)) → Settled g s → l.operator.priority ≡ g → AllBelow build g ls
      → value build (enter_all build s (l ∷ ls)) ≡ parts build s (here build l ls)
  settled-here g (leaf p) l ls h e b = absurd h
  settled-here g (node v o r) l ls h e b =
      elim h.1 [
        | inl k ↦ cut-here build (node v o r) l ls (enter-free build l v o r (holds-equal build o l.operator k (h.0 ∙ sym e)))
            (Held-below build l.operator ls (subst (λ n. AllBelow build n ls) (sym e) b))
        | inr lost ↦ Lost-enter_all (node v o r) (l ∷ ls) lost
            ∙ sym (joined-none l.operator (value build (node v o r)) (value build (enter_all build (leaf l.place) ls)) (Lost-value (node v o r) lost))
      ]

  -- one more link in front, at which the cut may stand
  right-later : (g : ℕ) (s : Spine T) (l : Link T) (ls : List (Link T)) (o : Option (Cut T)) (b : Bool) → nat_eq l.operator.priority g ≡ b
      → l.operator.priority ≤ g
      → RightClaim g (enter build l s) ls o
      → (l.operator.priority ≡ g → AllBelow build g ls → value build (enter_all build s (l ∷ ls)) ≡ parts build s (here build l ls))
      → RightClaim g s (l ∷ ls) (or_else (option_and_then (λ c. Some (later l c)) o) (cond b (Some (here build l ls)) None))
  right-later g s l ls (Some c) b e p h at = h
  right-later g s l ls None true e p h at = at (eq_true build l.operator.priority g e) h
  right-later g s l ls None false e p h at = (eq_false build l.operator.priority g e p, h)

  settled-is : (g : ℕ) (s : Spine T) (ls : List (Link T)) → Settled g s → greatest ls ≤ g → RightClaim g s ls (rightmost g ls)
  settled-is g s [] r m = tt
  settled-is g s (l ∷ ls) r m =
      right-later g s l ls (rightmost g ls) (nat_eq l.operator.priority g) refl (omega arith)
      (settled-is g (enter build l s) ls (Settled-enter g l s r (omega arith)) (omega arith)) (settled-here g s l ls r)

  -- the leftmost isn't xfy or fy
  abbrev NotRight : Option (Cut T) → Type 0
  NotRight None = Unit {0}
  NotRight (Some c) = leans_right c.link.operator.kind ≡ false

  NotRight-later : (l : Link T) (o : Option (Cut T)) → NotRight (option_and_then (λ c. Some (later l c)) o) → NotRight o
  NotRight-later l None h = tt
  NotRight-later l (Some c) h = h

  right-is : (g : ℕ) (s : Spine T) (ls : List (Link T)) → RootBelow build g s → greatest ls ≤ g → NotRight (leftmost g ls) → RightClaim g s ls (rightmost g ls)
  right-is g s [] r m k = tt
  right-is g s (l ∷ ls) r m k =
      let goal : Bool → Type 0 = λ b. nat_eq l.operator.priority g ≡ b
      → NotRight (cond b (Some (here build l ls)) (option_and_then (λ c. Some (later l c)) (leftmost g ls))) → RightClaim g s (l ∷ ls) (rightmost g (l ∷ ls)) in
      let at : l.operator.priority ≡ g → AllBelow build g ls → value build (enter_all build s (l ∷ ls)) ≡ parts build s (here build l ls)
      = λ e b. cut-here build s l ls (enter-below build g l s r (omega arith)) (Held-below build l.operator ls (subst (λ n. AllBelow build n ls) (sym e) b)) in
      let split : goal (nat_eq l.operator.priority g) = elim (nat_eq l.operator.priority g) as goal [
        | true ↦ λ e q.
            let p = eq_true build l.operator.priority g e in
            let fits : Settled g (fresh build (value build s) l) = (p, inl q) in
            let next : Settled g (enter build l s) = subst (Settled g) (sym (enter-below build g l s r (omega arith))) fits in
            right-later g s l ls (rightmost g ls) (nat_eq l.operator.priority g) refl (omega arith) (settled-is g (enter build l s) ls next (omega arith)) at
        | false ↦ λ e q.
            let p = eq_false build l.operator.priority g e (omega arith) in
            right-later g s l ls (rightmost g ls) (nat_eq l.operator.priority g) refl (omega arith)
            (right-is g (enter build l s) ls (RootBelow-enter build g l s r p) (omega arith) (NotRight-later l (leftmost g ls) q)) at
      ] in
      split refl k

  -- both sides of a cut are shorter
  abbrev Shorter : List (Link T) → Option (Cut T) → Type 0
  Shorter ls None = Unit {0}
  Shorter ls (Some c) = suc (length c.before + length c.after) ≡ length ls

  Shorter-later : (l : Link T) (ls : List (Link T)) (o : Option (Cut T)) → Shorter ls o → Shorter (l ∷ ls) (option_and_then (λ c. Some (later l c)) o)
  Shorter-later l ls None h = tt
  Shorter-later l ls (Some c) h = omega arith

  Shorter-here : (l : Link T) (ls : List (Link T)) → Shorter (l ∷ ls) (Some (here build l ls))
  Shorter-here l ls = omega arith

  leftmost-Shorter : (g : ℕ) (ls : List (Link T)) → Shorter ls (leftmost g ls)
  leftmost-Shorter g [] = tt
  leftmost-Shorter g (l ∷ ls) =
      elim (nat_eq l.operator.priority g) as (λ b. Shorter (l ∷ ls) (cond b (Some (here build l ls)) (option_and_then (λ c. Some (later l c)) (leftmost g ls))))
      [ true ↦ Shorter-here l ls | false ↦ Shorter-later l ls (leftmost g ls) (leftmost-Shorter g ls) ]

  Shorter-or_else : (ls : List (Link T)) (a b : Option (Cut T)) → Shorter ls a → Shorter ls b → Shorter ls (or_else a b)
  Shorter-or_else ls None b h k = k
  Shorter-or_else ls (Some c) b h k = h

  rightmost-Shorter : (g : ℕ) (ls : List (Link T)) → Shorter ls (rightmost g ls)
  rightmost-Shorter g [] = tt
  rightmost-Shorter g (l ∷ ls) =
      Shorter-or_else (l ∷ ls) (option_and_then (λ c. Some (later l c)) (rightmost g ls)) (cond (nat_eq l.operator.priority g) (Some (here build l ls)) None)
      (Shorter-later l ls (rightmost g ls) (rightmost-Shorter g ls))
      (elim (nat_eq l.operator.priority g) as (λ b. Shorter (l ∷ ls) (cond b (Some (here build l ls)) None)) [ true ↦ Shorter-here l ls | false ↦ tt ])

  -- what the weakest operator's cut says of the spine
  abbrev WeakestClaim : Spine T → List (Link T) → Option (Cut T) → Type 0
  WeakestClaim s ls None = ⊥
  WeakestClaim s ls (Some c) = (value build (enter_all build s ls) ≡ parts build s c) × (suc (length c.before + length c.after) ≡ length ls)

  some_below : (l : Link T) (ls : List (Link T)) → AllBelow build (greatest (l ∷ ls)) (l ∷ ls) → ⊥
  some_below l ls h =
      let p : l.operator.priority < greatest (l ∷ ls) = h.0 in
      let q = AllBelow-greatest build (greatest (l ∷ ls)) (l ∷ ls) h (omega arith) in
      absurd (omega arith)

  rightmost-claim : (s : Spine T) (l : Link T) (ls : List (Link T)) (o : Option (Cut T)) → RightClaim (greatest (l ∷ ls)) s (l ∷ ls) o → Shorter (l ∷ ls) o
      → WeakestClaim s (l ∷ ls) o
  rightmost-claim s l ls None h k = some_below l ls h
  rightmost-claim s l ls (Some c) h k = (h, k)

  weakest-claim : (s : Spine T) (l : Link T) (ls : List (Link T)) (o : Option (Cut T))
      → LeftClaim build (greatest (l ∷ ls)) s (l ∷ ls) o → Shorter (l ∷ ls) o
      → (NotRight o → WeakestClaim s (l ∷ ls) (rightmost (greatest (l ∷ ls)) (l ∷ ls)))
      → WeakestClaim s (l ∷ ls) (option_and_then (λ c. cond (leans_right c.link.operator.kind) (Some c) (rightmost (greatest (l ∷ ls)) (l ∷ ls))) o)
  weakest-claim s l ls None h k right = some_below l ls h
  weakest-claim s l ls (Some c) h k right =
      let goal : Bool → Type 0 = λ b. leans_right c.link.operator.kind ≡ b
      → WeakestClaim s (l ∷ ls) (cond b (Some c) (rightmost (greatest (l ∷ ls)) (l ∷ ls))) in
      let split : goal (leans_right c.link.operator.kind) = elim (leans_right c.link.operator.kind) as goal [ true ↦ λ e. (h e, k) | false ↦ λ e. right e ] in
      split refl

  weakest-is : (first : Place T) (l : Link T) (ls : List (Link T)) → WeakestClaim (leaf first) (l ∷ ls) (weakest (l ∷ ls))
  weakest-is first l ls =
      let g = greatest (l ∷ ls) in
      weakest-claim (leaf first) l ls (leftmost g (l ∷ ls)) (left-is build g (leaf first) (l ∷ ls) tt (omega arith)) (leftmost-Shorter g (l ∷ ls))
      (λ k. rightmost-claim (leaf first) l ls (rightmost g (l ∷ ls)) (right-is g (leaf first) (l ∷ ls) tt (omega arith) k) (rightmost-Shorter g (l ∷ ls)))

  abbrev split_by : (Place T → List (Link T) → Option (Place T)) → Place T → Option (Cut T) → Option (Place T)
  split_by tree first o = option_and_then (λ c. joined build c.link.operator (tree first c.before) (tree c.link.place c.after)) o

  split-is : (n : ℕ) (first : Place T) (ls : List (Link T)) (o : Option (Cut T)) → length ls ≤ suc n → WeakestClaim (leaf first) ls o
      → ((place : Place T) (ms : List (Link T)) → length ms ≤ n → tree_within build n place ms ≡ value build (enter_all build (leaf place) ms))
      → split_by (tree_within build n) first o ≡ value build (enter_all build (leaf first) ls)
  split-is n first ls None h claim below = absurd claim
  split-is n first ls (Some c) h claim below =
      let size = claim.1 in
      let left = below first c.before (omega arith) in
      let right = below c.link.place c.after (omega arith) in
      ap (λ t. joined build c.link.operator t (tree_within build n c.link.place c.after)) left
      ∙ ap (λ t. joined build c.link.operator (value build (enter_all build (leaf first) c.before)) t) right
      ∙ sym claim.0

  -- For any bound that is large enough the tree is the value of the spine.
  pub tree_within-is : (n : ℕ) (first : Place T) (ls : List (Link T)) → length ls ≤ n
      → tree_within build n first ls ≡ value build (enter_all build (leaf first) ls)
  tree_within-is n first [] h = refl
  tree_within-is zero first (l ∷ ls) h = absurd (omega arith)
  tree_within-is (suc n) first (l ∷ ls) h =
      split-is n first (l ∷ ls) (weakest (l ∷ ls)) h (weakest-is first l ls) (λ place ms. tree_within-is n place ms)
