-- The equations of the functions over skeletons.
use Rattle.std.proofs.Common.{◌≡◌, ℕ, ℤ, Bool, true, ◌&&◌, List, [], ◌∷◌, refl, sym, ap, ◌∙◌, nat_eq, Option}
use Rattle.std.specs.Cmp.Lexicographic.{pointwise}
use Rattle.std.specs.Ordering.{int_eq}
use Rattle.std.proofs.lemmas.Bool.{eqb-true, eq-eqb}
use Rattle.std.proofs.lemmas.Bool.Decides.{Decides-int_eq}
use Rattle.plai_terms.specs.declared.skeleton.Skeleton.{Skeleton, out-Skeleton, roll-Skeleton, map-Skeleton, fold-roll-Skeleton, roll-out-Skeleton, Any}
use Rattle.plai_terms.specs.declared.skeleton.Skeleton.{Integer, Int, Atom, Compound}
use Rattle.plai_terms.specs.declared.skeleton.Skeleton.TheOpen.{Skeleton-F}
use Rattle.plai_terms.specs.declared.skeleton.Skeleton.TheVariants.{outs-Any, outs-Integer, outs-Int, outs-Atom, outs-Compound}
use Rattle.plai_terms.proofs.Same.{both, names_equal}
use Rattle.plai_depth_laws.specs.Skeletons.{same_functor, join_layer, join, meet_step, meet}

at_skeleton : {B : Type 0} {f g : Skeleton → B} (t : Skeleton) → f ≡ g → f t ≡ g t
at_skeleton t e = λ i. e i t

pub same_layer : (s t : Skeleton) → out-Skeleton s ≡ out-Skeleton t → s ≡ t
same_layer s t e = sym (roll-out-Skeleton s) ∙ ap roll-Skeleton e ∙ roll-out-Skeleton t

-- a skeleton by its layer
pub is-Any : (s : Skeleton) → out-Skeleton s ≡ Skeleton-F.Any → s ≡ Any
is-Any s e = same_layer s Any (e ∙ sym outs-Any)

pub is-Integer : (s : Skeleton) → out-Skeleton s ≡ Skeleton-F.Integer → s ≡ Integer
is-Integer s e = same_layer s Integer (e ∙ sym outs-Integer)

pub is-Int : (s : Skeleton) (n : ℤ) → out-Skeleton s ≡ Skeleton-F.Int n → s ≡ Int n
is-Int s n e = same_layer s (Int n) (e ∙ sym (outs-Int n))

pub is-Atom : (s : Skeleton) (a : List ℕ) → out-Skeleton s ≡ Skeleton-F.Atom a → s ≡ Atom a
is-Atom s a e = same_layer s (Atom a) (e ∙ sym (outs-Atom a))

pub is-Compound : (s : Skeleton) (name : List ℕ) (args : List Skeleton) → out-Skeleton s ≡ Skeleton-F.Compound name args → s ≡ Compound name args
is-Compound s name args e = same_layer s (Compound name args) (e ∙ sym (outs-Compound name args))

join-roll : (x : Skeleton-F Skeleton) (t : Skeleton)
    → join (roll-Skeleton x) t ≡ join_layer (map-Skeleton Skeleton (Skeleton → Skeleton) join x) (out-Skeleton t)
join-roll x t = at_skeleton t (fold-roll-Skeleton (Skeleton → Skeleton) (λ x t. join_layer x (out-Skeleton t)) x)

meet-roll : (x : Skeleton-F Skeleton) (t : Skeleton) → meet (roll-Skeleton x) t ≡ meet_step (map-Skeleton Skeleton (Skeleton → Option Skeleton) meet x) t
meet-roll x t = at_skeleton t (fold-roll-Skeleton (Skeleton → Option Skeleton) meet_step x)

module _ (s : Skeleton) (x : Skeleton-F Skeleton) (is : out-Skeleton s ≡ x) where
  whole : roll-Skeleton x ≡ s
  whole = ap roll-Skeleton (sym is) ∙ roll-out-Skeleton s

  -- of a skeleton with this layer and another
  pub join_at : (t : Skeleton) (y : Skeleton-F Skeleton) → out-Skeleton t ≡ y → join s t ≡ join_layer (map-Skeleton Skeleton (Skeleton → Skeleton) join x) y
  join_at t y at = ap (λ s. join s t) (sym whole) ∙ join-roll x t ∙ ap (join_layer (map-Skeleton Skeleton (Skeleton → Skeleton) join x)) at

  pub meet_at : (t : Skeleton) → meet s t ≡ meet_step (map-Skeleton Skeleton (Skeleton → Option Skeleton) meet x) t
  meet_at t = ap (λ s. meet s t) (sym whole) ∙ meet-roll x t

-- tests of integers, names and functors
pub both_true : {p q : Bool} → p ≡ true → q ≡ true → (p && q) ≡ true
both_true {p} {q} e f = ap (λ b. b && q) e ∙ f

pub integers_equal : (m n : ℤ) → int_eq m n ≡ true → m ≡ n
integers_equal m n e = (Decides-int_eq m n).0 e

pub integer_itself : (n : ℤ) → int_eq n n ≡ true
integer_itself n = (Decides-int_eq n n).1 refl

pub name_itself : (a : List ℕ) → pointwise nat_eq a a ≡ true
name_itself [] = refl
name_itself (c ∷ cs) = both_true (eq-eqb c c refl) (name_itself cs)

pub functors_equal : (a : List ℕ) (m : ℕ) (b : List ℕ) (n : ℕ) → same_functor a m b n ≡ true → (a ≡ b) × (m ≡ n)
functors_equal a m b n e = let t = both (pointwise nat_eq a b) (nat_eq m n) e in (names_equal a b t.0, eqb-true m n t.1)

pub functor_itself : (a : List ℕ) (m n : ℕ) → m ≡ n → same_functor a m a n ≡ true
functor_itself a m n e = both_true (name_itself a) (eq-eqb m n e)
