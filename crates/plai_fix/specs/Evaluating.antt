-- What the evaluation of a clause under the rows of a table gives, and why one gives nothing.
use Rattle.std.specs.Prelude.{◌≡◌, ℕ, List, Option, Some}
use Rattle.plai_theory.specs.Domain.{Name}
use Rattle.plai_theory.specs.Evaluation.{answer_of, calls_of}
use Rattle.plai_theory.specs.Limits.{IsOverAt}
use Rattle.plai_terms.specs.declared.abs.Abs.{Abs}
use Rattle.plai_terms.specs.declared.pred_key.PredKey.{PredKey}
use Rattle.plai_domain.specs.Plain.{PlainDomain}
use Rattle.plai_clauses.specs.declared.clause.Clause.{Clause}
use Rattle.plai_eval.specs.Meaning.{row_name, as_domain, as_limits}
use Rattle.plai_eval.specs.Evaluation.{evaluation}
use Rattle.plai_fix.specs.declared.solve_fail.SolveFail.{SolveFail}
use Rattle.plai_fix.specs.declared.solve_fail.SolveFail.TheVariants as solve_fail
use Rattle.plai_fix_laws.specs.WorkStates.{KeptRow, kept_source}
use Rattle.plai_fix_rows.specs.Tables.{answers_of}

-- An answer or none, and the names that the clause calls. No set that it forms has too many groups.
pub record IsEvaluation (p : PlainDomain) (kept : List (KeptRow (as_domain p))) (clause : Clause) (call : Abs) (given : Option Abs) (called : List (Name PredKey Abs)) : Type 0 where
  pub answer : given ≡ answer_of (as_domain p) (kept_source (as_domain p) kept) clause call
  pub calls : called ≡ calls_of (as_domain p) (kept_source (as_domain p) kept) clause call
  pub within : IsOverAt (as_domain p) (as_limits p) (kept_source (as_domain p) kept) clause call → ⊥

-- a failure by a set of too many groups names the row, the number of the clause, and where the evaluation forms the first
-- such set; want of memory is free
abbrev pub TellsOver : (p : PlainDomain) → List (KeptRow (as_domain p)) → Name PredKey Abs → ℕ → Clause → SolveFail → Type 0
TellsOver p kept x number clause solve_fail.Memory = Unit {0}
TellsOver p kept x number clause (solve_fail.Rows n) = ⊥
TellsOver p kept x number clause (solve_fail.Groups row at literal place) =
    (row ≡ row_name x) × (at ≡ number) × ((evaluation p (answers_of p kept) clause x.call).over ≡ Some (literal, place))
