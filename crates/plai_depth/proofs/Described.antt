-- Properties set one by one, in any order.
use Rattle.std.proofs.Common.{◌≡◌, ℕ, zero, suc, ◌+◌, ◌-◌, ◌<◌, List, [], ◌∷◌, set, length, get_or, drop, replicate, refl, sym, ap, ◌∙◌}
use Rattle.std.proofs.lemmas.List.{at_drop_more, length-set}
use Rattle.plai_terms.specs.declared.prop.Prop.{Prop}
use Rattle.plai_terms.specs.declared.prop.Prop.TheVariants as property
use Rattle.plai_terms.specs.declared.skeleton.Skeleton.{Skeleton, Any, Integer}
use Rattle.plai_depth_laws.specs.Operations.{describe_of}
use Rattle.plai_depth.specs.Values.{with_property}

sets_swap : (ss : List Skeleton) (i j : ℕ) (s : Skeleton) → set (set ss i s) j s ≡ set (set ss j s) i s
sets_swap [] i j s = refl
sets_swap (x ∷ xs) zero zero s = refl
sets_swap (x ∷ xs) zero (suc j) s = refl
sets_swap (x ∷ xs) (suc i) zero s = refl
sets_swap (x ∷ xs) (suc i) (suc j) s = ap (λ ss. x ∷ ss) (sets_swap xs i j s)

swapped : (p q : Prop) (ss : List Skeleton) → with_property q (with_property p ss) ≡ with_property p (with_property q ss)
swapped (property.Ground i) q ss = refl
swapped (property.Var i) q ss = refl
swapped (property.Nonvar i) q ss = refl
swapped (property.Indep i j) q ss = refl
swapped (property.Int i) (property.Ground j) ss = refl
swapped (property.Int i) (property.Var j) ss = refl
swapped (property.Int i) (property.Nonvar j) ss = refl
swapped (property.Int i) (property.Indep j k) ss = refl
swapped (property.Int i) (property.Int j) ss = sets_swap ss (i - 1) (j - 1) Integer

-- the properties set from the first on
abbrev pub with_properties : List Prop → List Skeleton → List Skeleton
with_properties [] ss = ss
with_properties (p ∷ ps) ss = with_properties ps (with_property p ss)

last_as_well : (ps : List Prop) (p : Prop) (ss : List Skeleton) → with_properties ps (with_property p ss) ≡ with_property p (with_properties ps ss)
last_as_well [] p ss = refl
last_as_well (q ∷ ps) p ss = ap (with_properties ps) (swapped p q ss) ∙ last_as_well ps p (with_property q ss)

described_more : (n : ℕ) (p : Prop) (ps : List Prop) → with_property p (describe_of n ps) ≡ describe_of n (p ∷ ps)
described_more n (property.Ground i) ps = refl
described_more n (property.Var i) ps = refl
described_more n (property.Nonvar i) ps = refl
described_more n (property.Int i) ps = refl
described_more n (property.Indep i j) ps = refl

pub described : (n : ℕ) (ps : List Prop) → with_properties ps (replicate n Any) ≡ describe_of n ps
described n [] = refl
described n (p ∷ ps) = last_as_well ps p (replicate n Any) ∙ ap (with_property p) (described n ps) ∙ described_more n p ps

-- one more is set
pub described_next : (n : ℕ) (ps : List Prop) (i : ℕ) (d : Prop) (ss new : List Skeleton) → i < length ps → new ≡ with_property (get_or ps i d) ss
    → with_properties (drop i ps) ss ≡ describe_of n ps → with_properties (drop (i + 1) ps) new ≡ describe_of n ps
described_next n ps i d ss new l e h = ap (with_properties (drop (i + 1) ps)) e ∙ sym (at_drop_more (λ ps. with_properties ps ss) ps i d l) ∙ h

pub length_kept : (p : Prop) (ss : List Skeleton) → length (with_property p ss) ≡ length ss
length_kept (property.Ground i) ss = refl
length_kept (property.Var i) ss = refl
length_kept (property.Nonvar i) ss = refl
length_kept (property.Int i) ss = length-set ss (i - 1) Integer
length_kept (property.Indep i j) ss = refl
