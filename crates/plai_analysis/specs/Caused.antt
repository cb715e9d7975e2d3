-- Why a clause of a row that an edit keeps is evaluated again (Hermenegildo, Puebla, Marriott and Stuckey 2000). Clauses are
-- counted from 0.
use Rattle.std.specs.Prelude.{◌≡◌, ℕ, List, ◌∷◌, ◌++◌, Option, Some, None}
use Rattle.plai_theory.specs.Domain.{Name}
use Rattle.plai_theory.specs.LegalWork.{WorkRow, LogEntry, Evaluated, find, IsLegalLog, after_all}
use Rattle.plai_theory.specs.Edits.{grown_names, IsCaused}
use Rattle.plai_terms.specs.declared.abs.Abs.{Abs}
use Rattle.plai_terms.specs.declared.pred_key.PredKey.{PredKey}
use Rattle.plai_domain.specs.Plain.{PlainDomain}
use Rattle.plai_clauses.specs.Program.{ProgramView}
use Rattle.plai_eval.specs.Meaning.{as_domain, as_program}
use Rattle.plai_fix_rows.specs.Told.{PlainRow, work_over}
use Rattle.plai_analysis.specs.Starts.{IsStart}

-- Behind the entries that are done, clause i of x, a row with which the work began, is evaluated only where its predicate gained
-- the clause, or where a row that the clause called grew in one of those entries.
abbrev pub IsEvaluatedByCause : (p : PlainDomain) → ProgramView → ProgramView → List PlainRow → List (LogEntry (as_domain p))
    → Name PredKey Abs → ℕ → Type 0
IsEvaluatedByCause p was program opened done x i =
    (kept row : WorkRow (as_domain p)) → find (as_domain p) (work_over p opened).rows x ≡ Some kept
    → find (as_domain p) (after_all (as_domain p) (as_program p program) (work_over p opened) done).rows x ≡ Some row
    → IsCaused (as_domain p) (as_program p was) (grown_names (as_domain p) done) x i (row.calls i)

-- so is each clause of such a row that is evaluated in the log; work that begins with no rows has none
abbrev pub AreEvaluatedByCause : (p : PlainDomain) → Option ProgramView → ProgramView → List PlainRow → List (LogEntry (as_domain p)) → Type 0
AreEvaluatedByCause p None program opened log = Unit {0}
AreEvaluatedByCause p (Some was) program opened log =
    (done rest : List (LogEntry (as_domain p))) (x : Name PredKey Abs) (i : ℕ) → log ≡ done ++ Evaluated x i ∷ rest
    → IsEvaluatedByCause p was program opened done x i

-- Work on the program begins with these rows, and in each legal log from there clauses of these rows are evaluated by a cause.
pub record IsCarefulStart (p : PlainDomain) (was : Option ProgramView) (program : ProgramView) (limit : ℕ) (opened : List PlainRow) : Type 0 where
  pub start : IsStart p was program opened
  pub caused : (log : List (LogEntry (as_domain p))) → IsLegalLog (as_domain p) (as_program p program) limit (work_over p opened) log
      → AreEvaluatedByCause p was program opened log
