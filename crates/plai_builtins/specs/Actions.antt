-- What the builtin predicates do to a state: their actions in turn (ISO/IEC 13211-1:1995, 8 and 9, for what they do).
use Rattle.std.specs.Prelude.{ℕ, ◌+◌, List, [], ◌∷◌}
use Rattle.plai_theory.specs.Words.{given}
use Rattle.plai_base.specs.Mask.{mask_of}
use Rattle.plai_domain.specs.declared.action.Action.{Action}
use Rattle.plai_domain.specs.declared.action.Action.TheVariants.{Fail, Unify, Same, Ground, BindInt, Var, Nonvar, Havoc}
use Rattle.plai_clauses.specs.Builtins.{builtin_named}
use Rattle.plai_clauses.specs.declared.builtin.Builtin.{Builtin}
use Rattle.plai_clauses.specs.declared.builtin.Builtin.TheVariants as builtin

-- A builtin's actions. One with none does nothing to a state. An argument's slot is one less than its number.
abbrev pub builtin_actions : Builtin → List Action
builtin_actions builtin.True = []
builtin_actions builtin.Cut = []
builtin_actions builtin.NewLine = []
builtin_actions builtin.Write = []
builtin_actions builtin.Fail = Fail ∷ []
builtin_actions builtin.Unify = Unify 1 2 ∷ []
builtin_actions builtin.NotUnify = []
builtin_actions builtin.Same = Same 1 2 ∷ []
builtin_actions builtin.NotSame = []
builtin_actions builtin.TermLess = []
builtin_actions builtin.TermLessOrSame = []
builtin_actions builtin.TermGreater = []
builtin_actions builtin.TermGreaterOrSame = []
builtin_actions builtin.Var = Var 1 ∷ []
builtin_actions builtin.Nonvar = Nonvar 1 ∷ []
builtin_actions builtin.Atom = Ground 1 ∷ []
builtin_actions builtin.Atomic = Ground 1 ∷ []
builtin_actions builtin.Ground = Ground 1 ∷ []
builtin_actions builtin.Integer = BindInt 1 ∷ []
builtin_actions builtin.Compound = Nonvar 1 ∷ []
builtin_actions builtin.Is = Ground 2 ∷ BindInt 1 ∷ []
builtin_actions builtin.ValuesEqual = Ground 1 ∷ Ground 2 ∷ []
builtin_actions builtin.ValuesDiffer = Ground 1 ∷ Ground 2 ∷ []
builtin_actions builtin.ValueLess = Ground 1 ∷ Ground 2 ∷ []
builtin_actions builtin.ValueLessOrEqual = Ground 1 ∷ Ground 2 ∷ []
builtin_actions builtin.ValueGreater = Ground 1 ∷ Ground 2 ∷ []
builtin_actions builtin.ValueGreaterOrEqual = Ground 1 ∷ Ground 2 ∷ []
builtin_actions builtin.Functor = Ground 2 ∷ BindInt 3 ∷ Havoc (mask_of 0) ∷ []
builtin_actions builtin.Arg = BindInt 1 ∷ Havoc (mask_of 1 + mask_of 2) ∷ []
builtin_actions builtin.Univ = Havoc (mask_of 0 + mask_of 1) ∷ []
builtin_actions builtin.CopyTerm = Havoc (mask_of 1) ∷ []

-- the actions of the builtin of this name and number of arguments; what is no builtin has none
unfoldable pub actions_of : List ℕ → ℕ → List Action
actions_of name arity = given [] builtin_actions (builtin_named name arity)
