-- What is described has the properties, what is entailed holds, and what is excluded doesn't.
use Rattle.std.proofs.Common.{◌≡◌, ℕ, ◌-◌, ◌^◌, ◌≤◌, ◌<◌, ℤ, true, false, ◌||◌, List, [], ◌∷◌, length, map, inl, inr, refl, sym, ap, ◌∙◌, arith, rules}
use Rattle.std.specs.List.{list_all, list_any, All, AllByRecursion}
use Rattle.std.proofs.lemmas.List.Elements.{recursion_from_All}
use Rattle.std.proofs.lemmas.Bool.{and_parts, and_from, or_cases, or_from, false≢true}
use Rattle.plai_base.specs.Sets.{has_all}
use Rattle.plai_base.specs.Mask.{all_true}
use Rattle.plai_base.proofs.Sets.{kept_has}
use Rattle.plai_base.proofs.Bits.{top_slot}
use Rattle.plai_terms.specs.declared.term.Term.{Term, Var, Int, Compound, the_lemmas}
use Rattle.plai_terms.specs.declared.prop.Prop.{Prop}
use Rattle.plai_terms.specs.declared.prop.Prop.TheVariants as property
use Rattle.plai_terms.specs.Term.{is_ground, occurs}
use Rattle.plai_terms.specs.Subst.{apply_of}
use Rattle.plai_terms.proofs.Terms.{induction, occurs-Compound}
use Rattle.plai_terms.proofs.Substs.{apply_of-Var, apply_of-Compound, apply_of-ground, is_ground-Compound}
use Rattle.plai_domain.specs.Instances.{IsVar, IsInt, argument, has_property, has_properties, speaks_within}
use Rattle.plai_pos_laws.specs.Assignments.{IsPositive, argument_in, allows, allows_all, describe_of, entails_of, excludes_of}
use Rattle.plai_pos_laws.specs.Described.{describes, ground_in}
use Rattle.plai_pos_laws.proofs.Parts.{all_of, value_kept}
use Rattle.plai_pos_laws.proofs.Sound.{ground_in_lt, slot_of_ground}

-- ---- terms

abbrev IsSelf : Term → Type 0
IsSelf t = apply_of [] t ≡ t

all_self : (args : List Term) → AllByRecursion IsSelf args → map (apply_of []) args ≡ args
all_self [] h = refl
all_self (a ∷ args) h = let p = h.0 in let q = all_self args h.1 in cc

pub apply_of-none : (t : Term) → apply_of [] t ≡ t
apply_of-none = induction IsSelf
    (λ v. apply_of-Var [] v)
    (λ n. search (rules, the_lemmas))
    (λ a. search (rules, the_lemmas))
    (λ name args h. apply_of-Compound [] name args ∙ ap (Compound name) (all_self args h))

ground-Var : (v : ℕ) → is_ground (Var v) ≡ false
ground-Var v = search (rules, the_lemmas)

ground-Int : (z : ℤ) → is_ground (Int z) ≡ true
ground-Int z = search (rules, the_lemmas)

pub ground_no_var : (t : Term) → is_ground t ≡ true → IsVar t → ⊥
ground_no_var t e (v, h) = false≢true (sym (ground-Var v) ∙ ap is_ground (sym h) ∙ e)

pub var_not_ground : (t : Term) → IsVar t → is_ground t ≡ false
var_not_ground t (v, h) = ap is_ground h ∙ ground-Var v

pub int_ground : (t : Term) → IsInt t → is_ground t ≡ true
int_ground t (z, h) = ap is_ground h ∙ ground-Int z

module _ (v : ℕ) where
  abbrev IsFree : Term → Type 0
  IsFree t = is_ground t ≡ true → occurs v t ≡ false

  all_free : (args : List Term) → AllByRecursion IsFree args → list_all (λ b. b) (map is_ground args) ≡ true → list_any (λ b. b) (map (occurs v) args) ≡ false
  all_free [] h e = refl
  all_free (a ∷ args) h e =
      let r = and_parts (is_ground a) (list_all (λ b. b) (map is_ground args)) e in
      or_from (occurs v a) (list_any (λ b. b) (map (occurs v) args)) (h.0 r.0) (all_free args h.1 r.1)

  -- no variable occurs in a ground term
  pub ground_occurs : (t : Term) → is_ground t ≡ true → occurs v t ≡ false
  ground_occurs = induction IsFree
      (λ w e. absurd (false≢true (sym (ground-Var w) ∙ e)))
      (λ n e. search (rules, the_lemmas))
      (λ a e. search (rules, the_lemmas))
      (λ name args h e. occurs-Compound v name args ∙ all_free args h (sym (is_ground-Compound name args) ∙ e))

-- ---- describe

module _ (terms : List Term) where
  stays_true : (i : ℕ) → (1 ≤ i) × (i ≤ length terms) → is_ground (argument terms i) ≡ true → (s : List (ℕ × Term)) → argument_in (ground_in s terms) i ≡ true
  stays_true i w g s =
      let within : i - 1 < length terms = omega (arith, w.0, w.1) in
      slot_of_ground s terms (i - 1) within ∙ ap is_ground (apply_of-ground s (argument terms i) g) ∙ g

  allowed : (p : Prop) → speaks_within (length terms) p → has_property terms p → (s : List (ℕ × Term)) → allows p (ground_in s terms) ≡ true
  allowed (property.Ground i) w h s = stays_true i w h s
  allowed (property.Var i) w h s = refl
  allowed (property.Nonvar i) w h s = refl
  allowed (property.Int i) w h s = stays_true i w (int_ground (argument terms i) h) s
  allowed (property.Indep i j) w h s = refl

  all_allowed : (pre : List Prop) → AllByRecursion (speaks_within (length terms)) pre → AllByRecursion (has_property terms) pre → (s : List (ℕ × Term))
      → allows_all pre (ground_in s terms) ≡ true
  all_allowed [] w h s = refl
  all_allowed (p ∷ pre) w h s = and_from _ _ (allowed p w.0 h.0 s) (all_allowed pre w.1 h.1 s)

  -- the set of properties that a tuple has describes it
  pub describe_sound : (pre : List Prop) → All (speaks_within (length terms)) pre → has_properties terms pre → describes (describe_of (length terms) pre) terms
  describe_sound pre w h s =
      kept_has (2 ^ length terms) (allows_all pre) (ground_in s terms) (ground_in_lt s terms)
      (all_allowed pre (recursion_from_All (speaks_within (length terms)) pre w) (recursion_from_All (has_property terms) pre h) s)

  -- ---- entails and excludes: the tuple itself is one of its instances

  at_itself : (i : ℕ) → (1 ≤ i) × (i ≤ length terms) → argument_in (ground_in [] terms) i ≡ is_ground (argument terms i)
  at_itself i w =
      let within : i - 1 < length terms = omega (arith, w.0, w.1) in
      slot_of_ground [] terms (i - 1) within ∙ ap is_ground (apply_of-none (argument terms i))

  all_ground : (xs : List ℕ) (i : ℕ) → (1 ≤ i) × (i ≤ length terms) → describes xs terms → has_all xs (λ x. argument_in x i) ≡ true
      → is_ground (argument terms i) ≡ true
  all_ground xs i w d e = sym (at_itself i w) ∙ all_of xs (λ x. argument_in x i) (ground_in [] terms) e (d [])

  pub entails_sound : (xs : List ℕ) (p : Prop) → speaks_within (length terms) p → describes xs terms → entails_of xs p ≡ true → has_property terms p
  entails_sound xs (property.Ground i) w d e = all_ground xs i w d e
  entails_sound xs (property.Var i) w d e = absurd (false≢true e)
  entails_sound xs (property.Nonvar i) w d e = ground_no_var (argument terms i) (all_ground xs i w d e)
  entails_sound xs (property.Int i) w d e = absurd (false≢true e)
  entails_sound xs (property.Indep i j) w d e = λ v p q.
      elim (or_cases (argument_in (ground_in [] terms) i) (argument_in (ground_in [] terms) j)
      (all_of xs (λ x. argument_in x i || argument_in x j) (ground_in [] terms) e (d []))) [
        | inl h ↦ absurd (false≢true (sym (ground_occurs v (argument terms i) (sym (at_itself i (w.0, w.1)) ∙ h)) ∙ p))
        | inr h ↦ absurd (false≢true (sym (ground_occurs v (argument terms j) (sym (at_itself j (w.2, w.3)) ∙ h)) ∙ q))
      ]

  pub excludes_sound : (xs : List ℕ) (p : Prop) → speaks_within (length terms) p → describes xs terms → excludes_of xs p ≡ true → has_property terms p → ⊥
  excludes_sound xs (property.Ground i) w d e h = false≢true e
  excludes_sound xs (property.Var i) w d e h = ground_no_var (argument terms i) (all_ground xs i w d e) h
  excludes_sound xs (property.Nonvar i) w d e h = false≢true e
  excludes_sound xs (property.Int i) w d e h = false≢true e
  excludes_sound xs (property.Indep i j) w d e h = false≢true e

-- ---- what describe gives is a value

top_allows : (n : ℕ) (p : Prop) → speaks_within n p → allows p (all_true n) ≡ true
top_allows n (property.Ground i) w = let l : i - 1 < n = omega (arith, w.0, w.1) in top_slot n (i - 1) l
top_allows n (property.Var i) w = refl
top_allows n (property.Nonvar i) w = refl
top_allows n (property.Int i) w = let l : i - 1 < n = omega (arith, w.0, w.1) in top_slot n (i - 1) l
top_allows n (property.Indep i j) w = refl

top_allows_all : (n : ℕ) (pre : List Prop) → AllByRecursion (speaks_within n) pre → allows_all pre (all_true n) ≡ true
top_allows_all n [] w = refl
top_allows_all n (p ∷ pre) w = and_from _ _ (top_allows n p w.0) (top_allows_all n pre w.1)

pub value_describe : (n : ℕ) (pre : List Prop) → All (speaks_within n) pre → IsPositive n (describe_of n pre)
value_describe n pre w = value_kept n (allows_all pre) (top_allows_all n pre (recursion_from_All (speaks_within n) pre w))
