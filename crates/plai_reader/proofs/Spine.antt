-- A level read from the left: the operators from the root down to the last place, each with the tree on its left.
use Rattle.std.proofs.Common.{◌≡◌, true, false, cond, List, [], ◌∷◌, refl, ap, sym, subst}
use Rattle.std.specs.Prelude.{Option, Some, None, option_and_then}
use Rattle.plai_reader.specs.declared.operator.Operator.{Operator}
use Rattle.plai_reader.specs.declared.level.Operand.{Operand}
use Rattle.plai_reader.specs.Level.{Builder, Link, applied}
use Rattle.plai_reader.specs.Climb.{holds}

abbrev pub Place : Type 0 → Type 0
Place T = Option (Operand T)

pub data Spine (T : Type 0) : Type 0 where
  leaf : Place T → Spine T
  node : Option (Place T) → Operator → Spine T → Spine T

module _ {T : Type 0} (build : Builder T) where
  abbrev pub joined : Operator → Option (Place T) → Option (Place T) → Option (Place T)
  joined o before after = option_and_then (λ left. option_and_then (λ right. applied build o left right) after) before

  abbrev pub value : Spine T → Option (Place T)
  value (leaf p) = Some p
  value (node l o r) = joined o l (value r)

  -- the spine with one more link: it goes down while the operators hold it
  abbrev pub enter : Link T → Spine T → Spine T
  enter n (leaf p) = node (Some p) n.operator (leaf n.place)
  enter n (node l o r) = cond (holds o n.operator) (node l o (enter n r)) (node (joined o l (value r)) n.operator (leaf n.place))

  abbrev pub enter_all : Spine T → List (Link T) → Spine T
  enter_all s [] = s
  enter_all s (n ∷ ns) = enter_all (enter n s) ns

  -- a tree on the left is lost
  abbrev pub Dead : Spine T → Type 0
  Dead (leaf p) = ⊥
  Dead (node None o r) = Unit {0}
  Dead (node (Some l) o r) = Dead r

  pub Dead-value : (s : Spine T) → Dead s → value s ≡ None
  Dead-value (leaf p) h = absurd h
  Dead-value (node None o r) h = refl
  Dead-value (node (Some l) o r) h = ap (joined o (Some l)) (Dead-value r h)

  abbrev pub fresh : Option (Place T) → Link T → Spine T
  fresh v n = node v n.operator (leaf n.place)

  Dead-fresh : (v : Option (Place T)) (n : Link T) → v ≡ None → Dead (fresh v n)
  Dead-fresh v n e = subst (λ w. Dead (fresh w n)) (sym e) tt

  pub Dead-enter : (n : Link T) (s : Spine T) → Dead s → Dead (enter n s)
  Dead-enter n (leaf p) h = absurd h
  Dead-enter n (node None o r) h =
      elim (holds o n.operator) as (λ b. Dead (cond b (node None o (enter n r)) (fresh None n))) [ true ↦ tt | false ↦ tt ]
  Dead-enter n (node (Some l) o r) h =
      elim (holds o n.operator) as (λ b. Dead (cond b (node (Some l) o (enter n r)) (fresh (joined o (Some l) (value r)) n)))
      [ true ↦ Dead-enter n r h | false ↦ Dead-fresh _ n (Dead-value (node (Some l) o r) h) ]

  pub Dead-enter_all : (s : Spine T) (ns : List (Link T)) → Dead s → value (enter_all s ns) ≡ None
  Dead-enter_all s [] h = Dead-value s h
  Dead-enter_all s (n ∷ ns) h = Dead-enter_all (enter n s) ns (Dead-enter n s h)

  -- one more operator above two spines that do the same
  pub same-above : (n : Link T) (l : Option (Place T)) (o : Operator) (a b : Spine T) → value a ≡ value b → enter n a ≡ enter n b
      → enter n (node l o a) ≡ enter n (node l o b)
  same-above n l o a b p q =
      elim (holds o n.operator) as (λ t. cond t (node l o (enter n a)) (fresh (joined o l (value a)) n)
      ≡ cond t (node l o (enter n b)) (fresh (joined o l (value b)) n))
      [ true ↦ ap (node l o) q | false ↦ ap (λ v. fresh (joined o l v) n) p ]

  -- one more operator above a spine without a value
  pub Dead-above : (n : Link T) (l : Option (Place T)) (o : Operator) (a : Spine T) → value a ≡ None → Dead (enter n a) → Dead (enter n (node l o a))
  Dead-above n None o a p d = Dead-enter n (node None o a) tt
  Dead-above n (Some l) o a p d =
      elim (holds o n.operator) as (λ t. Dead (cond t (node (Some l) o (enter n a)) (fresh (joined o (Some l) (value a)) n)))
      [ true ↦ d | false ↦ Dead-fresh _ n (ap (joined o (Some l)) p) ]

  pub enter-held : (n : Link T) (l : Option (Place T)) (o : Operator) (r : Spine T) → holds o n.operator ≡ true → enter n (node l o r) ≡ node l o (enter n r)
  enter-held n l o r e = ap (λ t. cond t (node l o (enter n r)) (fresh (joined o l (value r)) n)) e

  pub enter-free : (n : Link T) (l : Option (Place T)) (o : Operator) (r : Spine T) → holds o n.operator ≡ false
      → enter n (node l o r) ≡ fresh (value (node l o r)) n
  enter-free n l o r e = ap (λ t. cond t (node l o (enter n r)) (fresh (joined o l (value r)) n)) e
