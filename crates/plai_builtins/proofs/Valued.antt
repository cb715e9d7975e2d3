-- A term with a value has no variables.
use Rattle.std.proofs.Common.{◌≡◌, ◌∙◌, ℕ, ℤ, true, Option, Some, None, List, [], ◌∷◌, map, refl, sym, rules}
use Rattle.std.specs.List.{list_all, AllByRecursion}
use Rattle.plai_terms.specs.Term.{is_ground}
use Rattle.plai_terms.specs.declared.term.Term.{Term, Var, Compound, the_lemmas}
use Rattle.plai_terms.proofs.Substs.{is_ground-Compound}
use Rattle.plai_terms.proofs.Terms.{induction}
use Rattle.plai_values.specs.Values.{value_of, functor_value}

abbrev IsSolid : Term → Type 0
IsSolid t = (z : ℤ) → value_of t ≡ Some z → is_ground t ≡ true

of_one : (x : Term) (name : List ℕ) (o : Option ℤ) (z : ℤ) → value_of x ≡ o → functor_value name (o ∷ []) ≡ Some z → (a : ℤ) × (value_of x ≡ Some a)
of_one x name (Some a) z is e = (a, is)
of_one x name None z is e = absurd cc

of_two : (x y : Term) (name : List ℕ) (o p : Option ℤ) (z : ℤ) → value_of x ≡ o → value_of y ≡ p → functor_value name (o ∷ p ∷ []) ≡ Some z
    → (a : ℤ) × (b : ℤ) × (value_of x ≡ Some a) × (value_of y ≡ Some b)
of_two x y name (Some a) (Some b) z is also e = (a, b, is, also)
of_two x y name None p z is also e = absurd cc
of_two x y name (Some a) None z is also e = absurd cc

solid_args : (name : List ℕ) (args : List Term) (z : ℤ) → AllByRecursion IsSolid args → functor_value name (map value_of args) ≡ Some z
    → list_all (λ b. b) (map is_ground args) ≡ true
solid_args name [] z h e = absurd cc
solid_args name (x ∷ []) z h e =
    let (a, is) = of_one x name (value_of x) z refl e in
    let p : is_ground x ≡ true = h.0 a is in
    cc
solid_args name (x ∷ y ∷ []) z h e =
    let (a, b, is, also) = of_two x y name (value_of x) (value_of y) z refl refl e in
    let p : is_ground x ≡ true = h.0 a is in
    let q : is_ground y ≡ true = h.1.0 b also in
    cc
solid_args name (x ∷ y ∷ w ∷ args) z h e = absurd (more (value_of x) (value_of y) (value_of w) (map value_of args) e)
  where
    more : (o p q : Option ℤ) (os : List (Option ℤ)) → functor_value name (o ∷ p ∷ q ∷ os) ≡ Some z → ⊥
    more (Some o) (Some p) q os e = cc
    more (Some o) None q os e = cc
    more None p q os e = cc

pub valued : (t : Term) → IsSolid t
valued = induction IsSolid
    (λ v z e. let no : value_of (Var v) ≡ None = search (rules, the_lemmas) in absurd cc)
    (λ n z e. search (rules, the_lemmas))
    (λ a z e. search (rules, the_lemmas))
    (λ name args h z e.
    let is : value_of (Compound name args) ≡ functor_value name (map value_of args) = search (rules, the_lemmas) in
    is_ground-Compound name args ∙ solid_args name args z h (sym is ∙ e))
