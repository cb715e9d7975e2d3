-- Climbing gives the value of the spine.
use Rattle.std.proofs.Common.{◌≡◌, ℕ, Bool, true, false, cond, List, [], ◌∷◌, refl, ap, sym, ◌∙◌, subst, arith}
use Rattle.std.specs.Prelude.{Option, Some, None, option_and_then, ◌&&◌, nat_eq, nat_lt}
use Rattle.std.proofs.lemmas.Bool.Decides.{nat_tests}
use Rattle.plai_reader.specs.declared.operator.Operator.{Operator}
use Rattle.plai_reader.specs.Level.{Builder, Link, applied}
use Rattle.plai_reader.specs.declared.level.Frame.{Frame}
use Rattle.plai_reader.specs.Kinds.{leans_right}
use Rattle.plai_reader.specs.Climb.{holds, finished, popped, climbed}
use Rattle.plai_reader.proofs.Spine.{Place, Spine, leaf, node, joined, value, enter, enter_all, Dead, Dead-enter_all, fresh, same-above, Dead-above}
use Rattle.plai_reader.proofs.Spine.{enter-held, enter-free}

module _ {T : Type 0} (build : Builder T) where
  -- the frames above a spine
  abbrev pub plug : List (Frame T) → Spine T → Spine T
  plug [] s = s
  plug (f ∷ fs) s = plug fs (node (Some f.left) f.operator s)

  some_then : (v : Option (Place T)) → v ≡ option_and_then (λ x. Some x) v
  some_then None = refl
  some_then (Some x) = refl

  then_then : (f g : Place T → Option (Place T)) (v : Option (Place T))
      → option_and_then g (option_and_then f v) ≡ option_and_then (λ x. option_and_then g (f x)) v
  then_then f g None = refl
  then_then f g (Some x) = refl

  plug-value : (fs : List (Frame T)) (s : Spine T) → value build (plug fs s) ≡ option_and_then (finished build fs) (value build s)
  plug-value [] s = some_then (value build s)
  plug-value (f ∷ fs) s = plug-value fs (node (Some f.left) f.operator s)
      ∙ then_then (λ right. applied build f.operator f.left right) (finished build fs) (value build s)

  plug-same : (n : Link T) (fs : List (Frame T)) (a b : Spine T) → value build a ≡ value build b → enter build n a ≡ enter build n b
      → enter build n (plug fs a) ≡ enter build n (plug fs b)
  plug-same n [] a b p q = q
  plug-same n (f ∷ fs) a b p q =
      plug-same n fs (node (Some f.left) f.operator a) (node (Some f.left) f.operator b)
      (ap (joined build f.operator (Some f.left)) p) (same-above build n (Some f.left) f.operator a b p q)

  plug-Dead : (n : Link T) (fs : List (Frame T)) (a : Spine T) → value build a ≡ None → Dead build (enter build n a) → Dead build (enter build n (plug fs a))
  plug-Dead n [] a p d = d
  plug-Dead n (f ∷ fs) a p d =
      plug-Dead n fs (node (Some f.left) f.operator a) (ap (joined build f.operator (Some f.left)) p) (Dead-above build n (Some f.left) f.operator a p d)

  -- every frame holds the operator
  abbrev pub HoldAll : List (Frame T) → Operator → Type 0
  HoldAll [] n = Unit {0}
  HoldAll (f ∷ fs) n = (holds f.operator n ≡ true) × HoldAll fs n

  -- every frame is held by those below it
  abbrev pub Chain : List (Frame T) → Type 0
  Chain [] = Unit {0}
  Chain (f ∷ fs) = HoldAll fs f.operator × Chain fs

  plug-enter : (n : Link T) (fs : List (Frame T)) (s : Spine T) → HoldAll fs n.operator → enter build n (plug fs s) ≡ plug fs (enter build n s)
  plug-enter n [] s h = refl
  plug-enter n (f ∷ fs) s h =
      plug-enter n fs (node (Some f.left) f.operator s) h.1 ∙ ap (plug fs) (enter-held build n (Some f.left) f.operator s h.0)

  test_along : (a b c : ℕ) (s t : Bool) → cond (nat_lt b a) true (nat_eq b a && s) ≡ true → cond (nat_lt c b) true (nat_eq c b && t) ≡ true
      → cond (nat_lt c a) true (nat_eq c a && s) ≡ true
  test_along a b c true true p q = grind (arith, nat_tests)
  test_along a b c true false p q = grind (arith, nat_tests)
  test_along a b c false true p q = grind (arith, nat_tests)
  test_along a b c false false p q = grind (arith, nat_tests)

  holds-along : (a b c : Operator) → holds a b ≡ true → holds b c ≡ true → holds a c ≡ true
  holds-along a b c p q = test_along a.priority b.priority c.priority (leans_right a.kind) (leans_right b.kind) p q

  HoldAll-along : (fs : List (Frame T)) (b c : Operator) → HoldAll fs b → holds b c ≡ true → HoldAll fs c
  HoldAll-along [] b c h e = tt
  HoldAll-along (f ∷ fs) b c h e = (holds-along f.operator b c h.0 e, HoldAll-along fs b c h.1 e)

  -- what is popped, given to the rest
  abbrev reduced : Operator → (List (Frame T) → Place T → Option (Place T)) → List (Frame T) → Place T → Option (Place T)
  reduced next rest [] current = rest [] current
  reduced next rest (f ∷ fs) current = cond (holds f.operator next) (rest (f ∷ fs) current)
      (option_and_then (reduced next rest fs) (applied build f.operator f.left current))

  abbrev given : (List (Frame T) → Place T → Option (Place T)) → Option (List (Frame T) × Place T) → Option (Place T)
  given rest o = option_and_then (λ p. rest p.0 p.1) o

  reduced-then : (next : Operator) (rest : List (Frame T) → Place T → Option (Place T)) (fs : List (Frame T)) (v : Option (Place T))
      → ((current : Place T) → reduced next rest fs current ≡ given rest (popped build next fs current))
      → option_and_then (reduced next rest fs) v ≡ given rest (option_and_then (popped build next fs) v)
  reduced-then next rest fs None h = refl
  reduced-then next rest fs (Some current) h = h current

  reduced-popped : (next : Operator) (rest : List (Frame T) → Place T → Option (Place T)) (fs : List (Frame T)) (current : Place T)
      → reduced next rest fs current ≡ given rest (popped build next fs current)
  reduced-popped next rest [] current = refl
  reduced-popped next rest (f ∷ fs) current =
      let t = reduced-then next rest fs (applied build f.operator f.left current) (λ c. reduced-popped next rest fs c) in
      elim (holds f.operator next) as (λ b. cond b (rest (f ∷ fs) current) (option_and_then (reduced next rest fs) (applied build f.operator f.left current))
      ≡ given rest (cond b (Some (f ∷ fs, current)) (option_and_then (popped build next fs) (applied build f.operator f.left current))))
      [ true ↦ refl | false ↦ t ]

  module _ (n : Link T) (ns : List (Link T)) (rest : List (Frame T) → Place T → Option (Place T))
      (each : (fs : List (Frame T)) (current : Place T) → HoldAll fs n.operator → Chain fs
      → rest fs current ≡ value build (enter_all build (plug fs (fresh build (Some current) n)) ns)) where
    -- the top frame is applied, to a value or to none
    top_applied : (f : Frame T) (fs : List (Frame T)) (current : Place T) (v : Option (Place T)) → applied build f.operator f.left current ≡ v
        → holds f.operator n.operator ≡ false
        → ((next : Place T) → reduced n.operator rest fs next ≡ value build (enter_all build (enter build n (plug fs (leaf next))) ns))
        → option_and_then (reduced n.operator rest fs) v
        ≡ value build (enter_all build (enter build n (plug fs (node (Some f.left) f.operator (leaf current)))) ns)
    top_applied f fs current None e h below =
        let free = enter-free build n (Some f.left) f.operator (leaf current) h in
        let dead : Dead build (enter build n (node (Some f.left) f.operator (leaf current))) =
        subst (Dead build) (sym (free ∙ ap (λ v. fresh build v n) e)) tt in
        sym (Dead-enter_all build (enter build n (plug fs (node (Some f.left) f.operator (leaf current)))) ns
        (plug-Dead n fs (node (Some f.left) f.operator (leaf current)) e dead))
    top_applied f fs current (Some next) e h below =
        let free = enter-free build n (Some f.left) f.operator (leaf current) h in
        let same : enter build n (plug fs (leaf next)) ≡ enter build n (plug fs (node (Some f.left) f.operator (leaf current))) =
        plug-same n fs (leaf next) (node (Some f.left) f.operator (leaf current)) (sym e) (sym (free ∙ ap (λ v. fresh build v n) e)) in
        below next ∙ ap (λ s. value build (enter_all build s ns)) same

    pub reduced-is : (fs : List (Frame T)) (current : Place T) → Chain fs
        → reduced n.operator rest fs current ≡ value build (enter_all build (enter build n (plug fs (leaf current))) ns)
    reduced-is [] current c = each [] current tt tt
    reduced-is (f ∷ fs) current c =
        let goal : Bool → Type 0 = λ b. holds f.operator n.operator ≡ b → cond b (rest (f ∷ fs) current)
        (option_and_then (reduced n.operator rest fs) (applied build f.operator f.left current))
        ≡ value build (enter_all build (enter build n (plug (f ∷ fs) (leaf current))) ns) in
        let split : goal (holds f.operator n.operator) = elim (holds f.operator n.operator) as goal [
          | true ↦ λ h.
              let all : HoldAll (f ∷ fs) n.operator = (h, HoldAll-along fs f.operator n.operator c.0 h) in
              each (f ∷ fs) current all c ∙ ap (λ s. value build (enter_all build s ns)) (sym (plug-enter n (f ∷ fs) (leaf current) all))
          | false ↦ λ h. top_applied f fs current (applied build f.operator f.left current) refl h (λ next. reduced-is fs next c.1)
        ] in
        split refl

  -- climbing gives the value of the spine that the frames and the links make
  pub climbed-is : (fs : List (Frame T)) (current : Place T) (ns : List (Link T)) → Chain fs
      → climbed build fs current ns ≡ value build (enter_all build (plug fs (leaf current)) ns)
  climbed-is fs current [] c = sym (plug-value fs (leaf current))
  climbed-is fs current (n ∷ ns) c =
      sym (reduced-popped n.operator (λ gs left. climbed build (record { left = left; operator = n.operator } ∷ gs) n.place ns) fs current)
      ∙ reduced-is n ns (λ gs left. climbed build (record { left = left; operator = n.operator } ∷ gs) n.place ns)
      (λ gs left h d. climbed-is (record { left = left; operator = n.operator } ∷ gs) n.place ns (h, d)) fs current c
