-- What is described has the properties, what is entailed holds, and what is excluded doesn't.
use Rattle.std.proofs.Common.{◌≡◌, ◌⊎◌, inl, inr, ℕ, zero, suc, ◌-◌, ◌≤◌, ◌<◌, ℤ, Bool, true, false, ◌||◌, ◌&&◌, not, List, [], ◌∷◌, length, map, get_or}
use Rattle.std.proofs.Common.{replicate, refl, sym, ap, ◌∙◌, arith, rules, subst}
use Rattle.std.specs.List.{list_all, list_any, All, AllByRecursion}
use Rattle.std.proofs.lemmas.List.{get_or-map}
use Rattle.std.proofs.lemmas.List.Elements.{recursion_from_All}
use Rattle.std.proofs.lemmas.Bool.{and_parts, or_cases, false≢true}
use Rattle.plai_terms.specs.declared.term.Term.{Term, out-Term, roll-Term, roll-out-Term, Var, Int, Atom, Compound, the_lemmas}
use Rattle.plai_terms.specs.declared.term.Term.TheOpen.{Term-F}
use Rattle.plai_terms.specs.declared.term.Term.TheVariants.{rolls-Int, rolls-Atom, rolls-Compound, outs-Var, outs-Int}
use Rattle.plai_terms.specs.declared.prop.Prop.{Prop}
use Rattle.plai_terms.specs.declared.prop.Prop.TheVariants as property
use Rattle.plai_terms.specs.Term.{is_ground, occurs}
use Rattle.plai_terms.specs.Substitution.{occurs_in}
use Rattle.plai_terms.proofs.Terms.{induction}
use Rattle.plai_terms.proofs.Under.{occurs-args}
use Rattle.plai_terms.proofs.Substs.{is_ground-Compound}
use Rattle.plai_terms.specs.declared.skeleton.Skeleton.{Skeleton, out-Skeleton, fold_out-Skeleton, Any, Integer}
use Rattle.plai_terms.specs.declared.skeleton.Skeleton as skeleton
use Rattle.plai_terms.specs.declared.skeleton.Skeleton.TheOpen.{Skeleton-F}
use Rattle.plai_terms.specs.declared.skeleton.Skeleton.TheVariants.{outs-Any, outs-Integer, outs-Int as outs-number}
use Rattle.plai_domain.specs.Instances.{IsVar, IsInt, argument, has_property, has_properties, speaks_within}
use Rattle.plai_depth_laws.specs.Moves.{skeleton_at}
use Rattle.plai_depth_laws.specs.Order.{IsUnder, AreUnder}
use Rattle.plai_depth_laws.specs.Operations.{is_any_layer, is_any, is_integer_layer, is_integer, has_any_step, has_any, describe_of, argument_of, entails_of}
use Rattle.plai_depth_laws.specs.Operations.{excludes_of}
use Rattle.plai_depth_laws.specs.Described.{DescribedBy, any, integer, number, atom, compound, AllDescribedBy, none, more}
use Rattle.plai_depth_laws.proofs.Moves.{under_set, pull-Int}
use Rattle.plai_depth_laws.proofs.Described.{shape}

-- ---- describe

pub shape_integer : (t : Term) → IsInt t → IsUnder (shape t) Integer
shape_integer t (z, e) = IsUnder.integer z (ap (λ t. out-Skeleton (shape t)) e ∙ ap out-Skeleton (pull-Int [] z) ∙ outs-number z) outs-Integer

all_any : (ts : List Term) → AreUnder (map shape ts) (replicate (length ts) Any)
all_any [] = AreUnder.none
all_any (t ∷ ts) = AreUnder.more (IsUnder.any outs-Any) (all_any ts)

module _ (ts : List Term) where
  at_shape : (i : ℕ) → (1 ≤ i) × (i ≤ length ts) → skeleton_at (map shape ts) (i - 1) ≡ shape (argument ts i)
  at_shape i w = let l : i - 1 < length ts = omega (arith, w.0, w.1) in get_or-map shape ts (i - 1) (Var 0) Any l

  under_describe : (pre : List Prop) → AllByRecursion (speaks_within (length ts)) pre → AllByRecursion (has_property ts) pre
      → AreUnder (map shape ts) (describe_of (length ts) pre)
  under_describe [] w h = all_any ts
  under_describe (property.Ground i ∷ pre) w h = under_describe pre w.1 h.1
  under_describe (property.Var i ∷ pre) w h = under_describe pre w.1 h.1
  under_describe (property.Nonvar i ∷ pre) w h = under_describe pre w.1 h.1
  under_describe (property.Int i ∷ pre) w h =
      under_set (under_describe pre w.1 h.1) (i - 1) Integer (subst (λ s. IsUnder s Integer) (sym (at_shape i w.0)) (shape_integer (argument ts i) h.0))
  under_describe (property.Indep i j ∷ pre) w h = under_describe pre w.1 h.1

  -- the skeletons of properties that a tuple has lie above its own
  pub describe_above : (pre : List Prop) → All (speaks_within (length ts)) pre → has_properties ts pre → AreUnder (map shape ts) (describe_of (length ts) pre)
  describe_above pre w h = under_describe pre (recursion_from_All (speaks_within (length ts)) pre w) (recursion_from_All (has_property ts) pre h)

-- ---- ground terms

has_any-layer : (s : Skeleton) (x : Skeleton-F Skeleton) → out-Skeleton s ≡ x → has_any s ≡ has_any_step (skeleton.map-Skeleton Skeleton Bool has_any x)
has_any-layer s x e = fold_out-Skeleton Bool has_any_step s ∙ ap (λ x. has_any_step (skeleton.map-Skeleton Skeleton Bool has_any x)) e

none_of : (p q : Bool) → (p || q) ≡ false → (p ≡ false) × (q ≡ false)
none_of true q e = absurd cc
none_of false q e = (refl, e)

both_of : (p q : Bool) → p ≡ true → q ≡ true → (p && q) ≡ true
both_of p q e f = ap (λ b. b && q) e ∙ f

mutual
  ground_described : {s : Skeleton} {t : Term} → DescribedBy s t → has_any s ≡ false → is_ground t ≡ true
  ground_described {s} {t} (any e) h = absurd (false≢true (sym h ∙ has_any-layer s Skeleton-F.Any e))
  ground_described {s} {t} (integer n e f) h =
      let i : t ≡ Int n = sym (roll-out-Term t) ∙ ap roll-Term f ∙ rolls-Int n in
      let g : is_ground (Int n) ≡ true = search (rules, the_lemmas) in
      ap is_ground i ∙ g
  ground_described {s} {t} (number n e f) h =
      let i : t ≡ Int n = sym (roll-out-Term t) ∙ ap roll-Term f ∙ rolls-Int n in
      let g : is_ground (Int n) ≡ true = search (rules, the_lemmas) in
      ap is_ground i ∙ g
  ground_described {s} {t} (atom a e f) h =
      let i : t ≡ Atom a = sym (roll-out-Term t) ∙ ap roll-Term f ∙ rolls-Atom a in
      let g : is_ground (Atom a) ≡ true = search (rules, the_lemmas) in
      ap is_ground i ∙ g
  ground_described {s} {t} (compound name ss ts e f ps) h =
      let i : t ≡ Compound name ts = sym (roll-out-Term t) ∙ ap roll-Term f ∙ rolls-Compound name ts in
      ap is_ground i ∙ is_ground-Compound name ts ∙ all_ground ps (sym (has_any-layer s (Skeleton-F.Compound name ss) e) ∙ h)

  all_ground : {ss : List Skeleton} {ts : List Term} → AllDescribedBy ss ts → list_any (λ b. b) (map has_any ss) ≡ false
      → list_all (λ b. b) (map is_ground ts) ≡ true
  all_ground none h = refl
  all_ground (more {s} {t} {ss} {ts} p ps) h =
      let k = none_of (has_any s) (list_any (λ b. b) (map has_any ss)) h in
      both_of (is_ground t) (list_all (λ b. b) (map is_ground ts)) (ground_described p k.0) (all_ground ps k.1)

module _ (v : ℕ) where
  abbrev IsFree : Term → Type 0
  IsFree t = is_ground t ≡ true → occurs v t ≡ true → ⊥

  all_free : (args : List Term) → AllByRecursion IsFree args → list_all (λ b. b) (map is_ground args) ≡ true → occurs_in v args ≡ true → ⊥
  all_free [] h e o = false≢true o
  all_free (a ∷ args) h e o =
      let r = and_parts (is_ground a) (list_all (λ b. b) (map is_ground args)) e in
      elim (or_cases (occurs v a) (occurs_in v args) o) [
        | inl p ↦ h.0 r.0 p
        | inr p ↦ all_free args h.1 r.1 p
      ]

  -- no variable occurs in a ground term
  ground_free : (t : Term) → is_ground t ≡ true → occurs v t ≡ true → ⊥
  ground_free = induction IsFree
      (λ w e o. let g : is_ground (Var w) ≡ false = search (rules, the_lemmas) in false≢true (sym g ∙ e))
      (λ n e o. let g : occurs v (Int n) ≡ false = search (rules, the_lemmas) in false≢true (sym g ∙ o))
      (λ a e o. let g : occurs v (Atom a) ≡ false = search (rules, the_lemmas) in false≢true (sym g ∙ o))
      (λ name args h e o. all_free args h (sym (is_ground-Compound name args) ∙ e) (sym (occurs-args v name args) ∙ o))

-- ---- entails and excludes

not_true : (b : Bool) → not b ≡ true → b ≡ false
not_true true e = absurd (false≢true e)
not_true false e = refl

variable_layer : (t : Term) → IsVar t → (v : ℕ) × (out-Term t ≡ Term-F.Var v)
variable_layer t (v, e) = (v, ap out-Term e ∙ outs-Var v)

number_layer : (t : Term) → IsInt t → (n : ℤ) × (out-Term t ≡ Term-F.Int n)
number_layer t (n, e) = (n, ap out-Term e ∙ outs-Int n)

-- a skeleton that describes a variable is `any`
variable_any : {s : Skeleton} {t : Term} (v : ℕ) → DescribedBy s t → out-Term t ≡ Term-F.Var v → is_any s ≡ true
variable_any v (any e) i = ap is_any_layer e
variable_any v (integer n e f) i = absurd cc
variable_any v (number n e f) i = absurd cc
variable_any v (atom a e f) i = absurd cc
variable_any v (compound name ss ts e f ps) i = absurd cc

-- one that describes an integer is `any`, `int` or an integer
number_kind : {s : Skeleton} {t : Term} (n : ℤ) → DescribedBy s t → out-Term t ≡ Term-F.Int n → (is_any s ≡ true) ⊎ (is_integer s ≡ true)
number_kind m (any e) i = inl (ap is_any_layer e)
number_kind m (integer n e f) i = inr (ap is_integer_layer e)
number_kind m (number n e f) i = inr (ap is_integer_layer e)
number_kind m (atom a e f) i = absurd cc
number_kind m (compound name ss ts e f ps) i = absurd cc

-- `int` and integers describe integers alone
integer_described : {s : Skeleton} {t : Term} → DescribedBy s t → is_integer s ≡ true → IsInt t
integer_described (any e) h = absurd (false≢true (sym (ap is_integer_layer e) ∙ h))
integer_described {s} {t} (integer n e f) h = (n, sym (roll-out-Term t) ∙ ap roll-Term f ∙ rolls-Int n)
integer_described {s} {t} (number n e f) h = (n, sym (roll-out-Term t) ∙ ap roll-Term f ∙ rolls-Int n)
integer_described (atom a e f) h = absurd (false≢true (sym (ap is_integer_layer e) ∙ h))
integer_described (compound name ss ts e f ps) h = absurd (false≢true (sym (ap is_integer_layer e) ∙ h))

described_at : {ss : List Skeleton} {ts : List Term} → AllDescribedBy ss ts → (j : ℕ) → j < length ts → DescribedBy (skeleton_at ss j) (get_or ts j (Var 0))
described_at none j l = absurd (omega (arith, l))
described_at (more p ps) zero l = p
described_at (more p ps) (suc j) l = described_at ps j (omega (arith, l))

module _ (ss : List Skeleton) (ts : List Term) (d : AllDescribedBy ss ts) where
  its : (i : ℕ) → (1 ≤ i) × (i ≤ length ts) → DescribedBy (argument_of ss i) (argument ts i)
  its i w = described_at d (i - 1) (omega (arith, w.0, w.1))

  no_variable : (i : ℕ) → (1 ≤ i) × (i ≤ length ts) → not (is_any (argument_of ss i)) ≡ true → IsVar (argument ts i) → ⊥
  no_variable i w e h =
      let (v, f) = variable_layer (argument ts i) h in
      false≢true (sym (not_true (is_any (argument_of ss i)) e) ∙ variable_any v (its i w) f)

  ground_there : (i : ℕ) → (1 ≤ i) × (i ≤ length ts) → not (has_any (argument_of ss i)) ≡ true → is_ground (argument ts i) ≡ true
  ground_there i w e = ground_described (its i w) (not_true (has_any (argument_of ss i)) e)

  pub entails_sound : (p : Prop) → speaks_within (length ts) p → entails_of ss p ≡ true → has_property ts p
  entails_sound (property.Ground i) w e = ground_there i w e
  entails_sound (property.Var i) w e = absurd (false≢true e)
  entails_sound (property.Nonvar i) w e = no_variable i w e
  entails_sound (property.Int i) w e = integer_described (its i w) e
  entails_sound (property.Indep i j) w e = λ v p q.
      elim (or_cases (not (has_any (argument_of ss i))) (not (has_any (argument_of ss j))) e) [
        | inl h ↦ ground_free v (argument ts i) (ground_there i (w.0, w.1) h) p
        | inr h ↦ ground_free v (argument ts j) (ground_there j (w.2, w.3) h) q
      ]

  pub excludes_sound : (p : Prop) → speaks_within (length ts) p → excludes_of ss p ≡ true → has_property ts p → ⊥
  excludes_sound (property.Ground i) w e h = false≢true e
  excludes_sound (property.Var i) w e h = no_variable i w e h
  excludes_sound (property.Nonvar i) w e h = false≢true e
  excludes_sound (property.Int i) w e h =
      let (n, f) = number_layer (argument ts i) h in
      let k = and_parts (not (is_any (argument_of ss i))) (not (is_integer (argument_of ss i))) e in
      elim (number_kind n (its i w) f) [
        | inl a ↦ false≢true (sym (not_true (is_any (argument_of ss i)) k.0) ∙ a)
        | inr a ↦ false≢true (sym (not_true (is_integer (argument_of ss i)) k.1) ∙ a)
      ]
  excludes_sound (property.Indep i j) w e h = false≢true e
