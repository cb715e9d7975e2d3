-- What a program keeps of its clauses and entries: bounds, the numbers of variables and arguments, and targets.
use Rattle.std.specs.Prelude.{◌≡◌, ℕ, ◌≤◌, true, false, All, List, length}
use Rattle.plai_theory.specs.Words.{IsIn}
use Rattle.plai_terms.specs.declared.pred_key.PredKey.{PredKey}
use Rattle.plai_domain.specs.Instances.{speaks_within}
use Rattle.plai_domain.specs.Conditions.{most_arguments, IsHead, AreArguments}
use Rattle.plai_clauses.specs.declared.clause.Clause.{Clause}
use Rattle.plai_clauses.specs.declared.clause.Literal.{Literal}
use Rattle.plai_clauses.specs.declared.clause.Target.{Target}
use Rattle.plai_clauses.specs.declared.clause.Target.TheVariants.{Pred, Builtin}
use Rattle.plai_clauses.specs.declared.entry.Entry.{Entry}
use Rattle.plai_clauses.specs.declared.check.Check.{Check}
use Rattle.plai_clauses.specs.Builtins.{is_builtin_key}
use Rattle.plai_clauses.specs.Program.{ProgramView, clauses_of, entries_of}

-- a target of a literal of this name and so many arguments: the builtin where there is one, else a predicate
abbrev pub IsTargetOf : List ℕ → ℕ → Target → Type 0
IsTargetOf name arity (Pred pred) = (is_builtin_key name arity ≡ false) × (pred.name ≡ name) × (pred.arity ≡ arity)
IsTargetOf name arity Builtin = is_builtin_key name arity ≡ true

-- a literal of a clause of n arguments and v variables
pub record IsLiteral (n v : ℕ) (literal : Literal) : Type 0 where
  pub args : AreArguments n v literal.args
  pub target : IsTargetOf literal.name (length literal.args) literal.target

pub record IsWellFormedClause (clause : Clause) : Type 0 where
  pub head : IsHead (length clause.head) clause.variables clause.head
  pub body : (literal : Literal) → IsIn literal clause.body → IsLiteral (length clause.head) clause.variables literal

pub record IsWellFormedEntry (entry : Entry) : Type 0 where
  pub few : entry.pred.arity ≤ most_arguments
  pub pre : All (speaks_within entry.pred.arity) entry.pre

pub record IsWellFormedCheck (check : Check) : Type 0 where
  pub few : check.pred.arity ≤ most_arguments
  pub pre : All (speaks_within check.pred.arity) check.pre
  pub post : All (speaks_within check.pred.arity) check.post

-- Each clause is of its predicate, and clauses, entries and checks are well formed.
pub record IsWellFormed (program : ProgramView) : Type 0 where
  pub names : (pred : PredKey) (clause : Clause) → IsIn clause (clauses_of program pred) → clause.name ≡ pred.name
  pub arities : (pred : PredKey) (clause : Clause) → IsIn clause (clauses_of program pred) → length clause.head ≡ pred.arity
  pub clauses : (pred : PredKey) (clause : Clause) → IsIn clause (clauses_of program pred) → IsWellFormedClause clause
  pub entries : (entry : Entry) → IsIn entry (entries_of program) → IsWellFormedEntry entry
  pub checks : (check : Check) → IsIn check program.checks → IsWellFormedCheck check
