-- Tests of builtins, and `is`, `=` and `\=`: what they mean is a composition of what their actions allow.
use Rattle.std.proofs.Common.{◌≡◌, ◌∙◌, ℕ, ℤ, Bool, true, false, ◌||◌, not, Option, Some, None, List, [], ◌∷◌, refl, sym, subst}
use Rattle.std.specs.Ordering.{is_eq}
use Rattle.plai_theory.specs.Words.{given}
use Rattle.plai_terms.specs.Term.{is_ground}
use Rattle.plai_terms.specs.Subst.{bound_to}
use Rattle.plai_terms.specs.declared.term.Term.{Term, Var, Int, out-Term}
use Rattle.plai_terms.specs.declared.outcome.Outcome.{Outcome}
use Rattle.plai_terms.specs.declared.outcome.Outcome.TheVariants.{Unified, Clash, Occurs}
use Rattle.plai_terms.specs.Substitution.{under}
use Rattle.plai_terms.specs.Unification.{Bindings}
use Rattle.plai_terms.proofs.Under.{or_first, under_Var}
use Rattle.plai_domain.specs.declared.action.Action.TheVariants as action
use Rattle.plai_domain.specs.Instances.{IsInt}
use Rattle.plai_values.specs.declared.comparison.Comparison.{Comparison}
use Rattle.plai_values.specs.declared.comparison.Comparison.TheVariants.{Eq}
use Rattle.plai_values.specs.Values.{value_of}
use Rattle.plai_values.specs.TermOrder.{term_order, compares_terms}
use Rattle.plai_values.proofs.OrderLaws.{told_by_order}
use Rattle.plai_builtins.specs.Meaning.{Never, Test, Solve, Apart, refuted, Meets, is_variable, is_integer, is_atom, is_compound, compared, value_test}
use Rattle.plai_builtins.specs.Meaning.{term_test}
use Rattle.plai_builtins.proofs.Composed.{Composed, Kept, nothing, by_passing, idle_one, grounded}
use Rattle.plai_builtins.proofs.Equated.{unified, value_allowed}
use Rattle.plai_builtins.proofs.TermKinds.{variable_is, is_no_variable, integer_is, atomic_ground, compound_no_variable}
use Rattle.plai_builtins.proofs.Turns.{last_action, idle_action, idle_local}
use Rattle.plai_builtins.proofs.Valued.{valued}

module _ (n : ℕ) (s : Bindings) where
  -- tests of one term
  off : (b : Bool) → not b ≡ true → b ≡ false
  off true e = absurd cc
  off false e = refl

  pub by_variable : (t : Term) → Kept n s (action.Var 1 ∷ []) (t ∷ []) (Test (is_variable (out-Term t)))
  by_variable t = by_passing n (action.Var 1 ∷ []) (t ∷ []) (is_variable (out-Term t)) s (λ e. idle_one n (action.Var 1) (t ∷ []) (variable_is t e, λ v. refl))

  pub by_no_variable : (t : Term) → Kept n s (action.Nonvar 1 ∷ []) (t ∷ []) (Test (not (is_variable (out-Term t))))
  by_no_variable t =
      by_passing n (action.Nonvar 1 ∷ []) (t ∷ []) (not (is_variable (out-Term t))) s
      (λ e. idle_one n (action.Nonvar 1) (t ∷ []) (is_no_variable t (off (is_variable (out-Term t)) e), λ v. refl))

  pub by_compound : (t : Term) → Kept n s (action.Nonvar 1 ∷ []) (t ∷ []) (Test (is_compound (out-Term t)))
  by_compound t =
      by_passing n (action.Nonvar 1 ∷ []) (t ∷ []) (is_compound (out-Term t)) s
      (λ e. idle_one n (action.Nonvar 1) (t ∷ []) (compound_no_variable t e, λ v. refl))

  pub by_integer : (t : Term) → Kept n s (action.BindInt 1 ∷ []) (t ∷ []) (Test (is_integer (out-Term t)))
  by_integer t =
      by_passing n (action.BindInt 1 ∷ []) (t ∷ []) (is_integer (out-Term t)) s
      (λ e. idle_one n (action.BindInt 1) (t ∷ []) (idle_local n (t ∷ []), to_int (integer_is t e)))
    where
      to_int : IsInt t → IsInt (under Var t)
      to_int (z, e) = (z, under_Var t ∙ e)

  -- a test that only a ground term passes
  pub by_ground : (t : Term) (b : Bool) → (b ≡ true → is_ground t ≡ true) → Kept n s (action.Ground 1 ∷ []) (t ∷ []) (Test b)
  by_ground t b h =
      by_passing n (action.Ground 1 ∷ []) (t ∷ []) b s (λ e. idle_one n (action.Ground 1) (t ∷ []) (idle_local n (t ∷ []), grounded t (h e)))

  pub atom_ground : (t : Term) → is_atom (out-Term t) ≡ true → is_ground t ≡ true
  atom_ground t e = atomic_ground t (or_first (is_atom (out-Term t)) (is_integer (out-Term t)) e)

  -- `==`
  identical : (l r : Term) → compares_terms Eq l r ≡ true → l ≡ r
  identical l r e = (told_by_order l r (term_order l r) (is_eq (term_order l r)) refl refl).0 e

  pub by_same : (l r : Term) → Kept n s (action.Same 1 2 ∷ []) (l ∷ r ∷ []) (term_test Eq l r)
  by_same l r =
      by_passing n (action.Same 1 2 ∷ []) (l ∷ r ∷ []) (compares_terms Eq l r) s
      (λ e. idle_one n (action.Same 1 2) (l ∷ r ∷ []) (identical l r e, λ v. refl))

  -- `=` and `\=`
  pub by_unifier : (l r : Term) → Kept n s (action.Unify 1 2 ∷ []) (l ∷ r ∷ []) (Solve (l ∷ []) (r ∷ []))
  by_unifier l r m = last_action n (action.Unify 1 2) (l ∷ r ∷ []) (bound_to s) (s, unified (l ∷ []) (r ∷ []) s m, λ v. refl)

  refuted_none : (o : Outcome) → Some s ≡ refuted o → s ≡ []
  refuted_none (Unified t) e = absurd cc
  refuted_none Clash e = cc
  refuted_none Occurs e = cc

  pub by_clash : (l r : Term) → Kept n s [] (l ∷ r ∷ []) (Apart l r)
  by_clash l r (o, out, e) = subst (λ t. Composed n [] (l ∷ r ∷ []) t) (sym (refuted_none o e)) (nothing n (l ∷ r ∷ []))

  -- `is`
  pub value_by : (l r : Term) (value : Option ℤ) → value_of r ≡ value → Meets (given Never (λ z. Solve (Int z ∷ []) (l ∷ [])) value) (Some s)
      → Composed n (action.Ground 2 ∷ action.BindInt 1 ∷ []) (l ∷ r ∷ []) s
  value_by l r None e m = absurd cc
  value_by l r (Some z) e m = value_allowed n l r s z (valued r z e) m

  both_values : (c : Comparison) (x y : Option ℤ) → compared c x y ≡ true → (a : ℤ) × (b : ℤ) × (x ≡ Some a) × (y ≡ Some b)
  both_values c (Some a) (Some b) e = (a, b, refl, refl)
  both_values c None y e = absurd cc
  both_values c (Some a) None e = absurd cc

  -- a comparison of two values
  pub compared_by : (l r : Term) (c : Comparison) → Meets (value_test c l r) (Some s)
      → Composed n (action.Ground 1 ∷ action.Ground 2 ∷ []) (l ∷ r ∷ []) s
  compared_by l r c m =
      by_passing n (action.Ground 1 ∷ action.Ground 2 ∷ []) (l ∷ r ∷ []) (compared c (value_of l) (value_of r)) s
      (λ e.
      let (a, b, is, also) = both_values c (value_of l) (value_of r) e in
      idle_action n (action.Ground 1) (action.Ground 2 ∷ []) (l ∷ r ∷ []) Var (idle_local n (l ∷ []), grounded l (valued l a is))
      (idle_one n (action.Ground 2) (l ∷ r ∷ []) (idle_local n (r ∷ []), grounded r (valued r b also)))) m
