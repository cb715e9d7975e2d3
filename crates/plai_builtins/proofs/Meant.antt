-- Each meaning is a composition of what the builtin's actions allow.
use Rattle.std.proofs.Common.{◌≡◌, ℕ, true, ◌||◌, Option, Some, None, List, [], ◌∷◌, length, refl, sym}
use Rattle.plai_theory.specs.Words.{given}
use Rattle.plai_terms.specs.Term.{is_ground}
use Rattle.plai_terms.specs.Subst.{bound_to}
use Rattle.plai_terms.specs.declared.term.Term.{Term, out-Term, roll-out-Term}
use Rattle.plai_terms.specs.Substitution.{AreBelow}
use Rattle.plai_terms.specs.Unification.{Bindings}
use Rattle.plai_values.specs.declared.comparison.Comparison.{Comparison}
use Rattle.plai_values.specs.declared.comparison.Comparison.TheVariants.{Eq, Ne, Lt, Le, Gt, Ge}
use Rattle.plai_values.specs.Values.{value_of}
use Rattle.plai_values.specs.TermOrder.{compares_terms}
use Rattle.plai_clauses.specs.Builtins.{builtin_named}
use Rattle.plai_clauses.specs.declared.builtin.Builtin.{Builtin}
use Rattle.plai_clauses.specs.declared.builtin.Builtin.TheVariants as builtin
use Rattle.plai_builtins.specs.Actions.{builtin_actions, actions_of}
use Rattle.plai_builtins.specs.InTurn.{AllowedInTurn}
use Rattle.plai_builtins.specs.Meaning.{Never, Test, Meets, Means, is_integer, is_atom, term_test, builtin_demand, asked_by}
use Rattle.plai_builtins.proofs.Composed.{Composed, Kept, nothing_done, at_none, at_one, at_two, at_three}
use Rattle.plai_builtins.proofs.Constructed.{functor_by, argument_by, univ_by}
use Rattle.plai_builtins.proofs.Copied.{copy_allowed}
use Rattle.plai_builtins.proofs.TermKinds.{atomic_ground}
use Rattle.plai_builtins.proofs.Tests.{by_variable, by_no_variable, by_compound, by_integer, by_ground, atom_ground, by_same, by_unifier, by_clash, value_by}
use Rattle.plai_builtins.proofs.Tests.{compared_by}

module _ (n : ℕ) (s : Bindings) where
  -- a comparison of two terms that does nothing
  compared_terms : (c : Comparison) (l r : Term) → Kept n s [] (l ∷ r ∷ []) (term_test c l r)
  compared_terms c l r = nothing_done n s (l ∷ r ∷ []) (compares_terms c l r)

  builtin_allowed : (b : Builtin) (args : List Term) → AreBelow n args → Kept n s (builtin_actions b) args (builtin_demand b args n)
  builtin_allowed builtin.True args below = at_none n s (builtin_actions builtin.True) (Test true) (nothing_done n s [] true) args
  builtin_allowed builtin.Cut args below = at_none n s (builtin_actions builtin.Cut) (Test true) (nothing_done n s [] true) args
  builtin_allowed builtin.NewLine args below = at_none n s (builtin_actions builtin.NewLine) (Test true) (nothing_done n s [] true) args
  builtin_allowed builtin.Write args below = at_one n s (builtin_actions builtin.Write) (λ t. Test true) (λ t. nothing_done n s (t ∷ []) true) args
  builtin_allowed builtin.Fail args below = at_none n s (builtin_actions builtin.Fail) Never (λ m. absurd cc) args
  builtin_allowed builtin.Unify args below = at_two n s (builtin_actions builtin.Unify) _ (by_unifier n s) args
  builtin_allowed builtin.NotUnify args below = at_two n s (builtin_actions builtin.NotUnify) _ (by_clash n s) args
  builtin_allowed builtin.Same args below = at_two n s (builtin_actions builtin.Same) _ (by_same n s) args
  builtin_allowed builtin.NotSame args below = at_two n s (builtin_actions builtin.NotSame) _ (compared_terms Ne) args
  builtin_allowed builtin.TermLess args below = at_two n s (builtin_actions builtin.TermLess) _ (compared_terms Lt) args
  builtin_allowed builtin.TermLessOrSame args below = at_two n s (builtin_actions builtin.TermLessOrSame) _ (compared_terms Le) args
  builtin_allowed builtin.TermGreater args below = at_two n s (builtin_actions builtin.TermGreater) _ (compared_terms Gt) args
  builtin_allowed builtin.TermGreaterOrSame args below = at_two n s (builtin_actions builtin.TermGreaterOrSame) _ (compared_terms Ge) args
  builtin_allowed builtin.Var args below = at_one n s (builtin_actions builtin.Var) _ (by_variable n s) args
  builtin_allowed builtin.Nonvar args below = at_one n s (builtin_actions builtin.Nonvar) _ (by_no_variable n s) args
  builtin_allowed builtin.Atom args below = at_one n s (builtin_actions builtin.Atom) _ (λ t. by_ground n s t (is_atom (out-Term t)) (atom_ground n s t)) args
  builtin_allowed builtin.Atomic args below =
      at_one n s (builtin_actions builtin.Atomic) _ (λ t. by_ground n s t (is_atom (out-Term t) || is_integer (out-Term t)) (atomic_ground t)) args
  builtin_allowed builtin.Ground args below = at_one n s (builtin_actions builtin.Ground) _ (λ t. by_ground n s t (is_ground t) (λ e. e)) args
  builtin_allowed builtin.Integer args below = at_one n s (builtin_actions builtin.Integer) _ (by_integer n s) args
  builtin_allowed builtin.Compound args below = at_one n s (builtin_actions builtin.Compound) _ (by_compound n s) args
  builtin_allowed builtin.Is args below = at_two n s (builtin_actions builtin.Is) _ (λ x e. value_by n s x e (value_of e) refl) args
  builtin_allowed builtin.ValuesEqual args below = at_two n s (builtin_actions builtin.ValuesEqual) _ (λ l r. compared_by n s l r Eq) args
  builtin_allowed builtin.ValuesDiffer args below = at_two n s (builtin_actions builtin.ValuesDiffer) _ (λ l r. compared_by n s l r Ne) args
  builtin_allowed builtin.ValueLess args below = at_two n s (builtin_actions builtin.ValueLess) _ (λ l r. compared_by n s l r Lt) args
  builtin_allowed builtin.ValueLessOrEqual args below = at_two n s (builtin_actions builtin.ValueLessOrEqual) _ (λ l r. compared_by n s l r Le) args
  builtin_allowed builtin.ValueGreater args below = at_two n s (builtin_actions builtin.ValueGreater) _ (λ l r. compared_by n s l r Gt) args
  builtin_allowed builtin.ValueGreaterOrEqual args below = at_two n s (builtin_actions builtin.ValueGreaterOrEqual) _ (λ l r. compared_by n s l r Ge) args
  builtin_allowed builtin.Functor args below =
      at_three n s (builtin_actions builtin.Functor) _ (λ t x y under. functor_by n s t x y (out-Term t) under (sym (roll-out-Term t))) args below
  builtin_allowed builtin.Arg args below =
      at_three n s (builtin_actions builtin.Arg) _ (λ k t a under. argument_by n s k t a (out-Term t) (sym (roll-out-Term t))) args below
  builtin_allowed builtin.Univ args below = at_two n s (builtin_actions builtin.Univ) _ (λ t l. univ_by n s t l (out-Term t) (sym (roll-out-Term t))) args
  builtin_allowed builtin.CopyTerm args below = at_two n s (builtin_actions builtin.CopyTerm) _ (λ t c. copy_allowed n t c s) args

  found_allowed : (found : Option Builtin) (args : List Term) → AreBelow n args → Kept n s (given [] builtin_actions found) args (asked_by found args n)
  found_allowed None args below m = absurd cc
  found_allowed (Some b) args below m = builtin_allowed b args below m

pub meant_is_allowed : (name : List ℕ) (args : List Term) (fresh : ℕ) (s : Bindings) → AreBelow fresh args → Means name args fresh (Some s)
    → AllowedInTurn fresh (actions_of name (length args)) args (bound_to s)
unfolding actions_of
meant_is_allowed name args fresh s below = found_allowed fresh s (builtin_named name (length args)) args below
