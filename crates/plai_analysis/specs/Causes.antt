-- Why an analysis gives no table (Hermenegildo, Puebla, Marriott and Stuckey 2000).
use Rattle.std.specs.Prelude.{◌≡◌, ℕ, ◌+◌, ◌≤◌, true, List, map, length, Option, Some}
use Rattle.plai_theory.specs.Words.{IsIn, AreDistinct}
use Rattle.plai_theory.specs.Domain.{Name}
use Rattle.plai_theory.specs.LegalWork.{WorkRow, LogEntry, find, present_source, IsDemanded, IsLegalLog, after_all}
use Rattle.plai_theory.specs.Claims.{HasAbove}
use Rattle.plai_terms.specs.declared.abs.Abs.{Abs}
use Rattle.plai_terms.specs.declared.pred_key.PredKey.{PredKey}
use Rattle.plai_terms.specs.declared.plain_row.PlainRow as patterns
use Rattle.plai_terms.specs.declared.row_name.RowName.{RowName}
use Rattle.plai_domain.specs.Plain.{PlainDomain}
use Rattle.plai_clauses.specs.declared.clause.Clause.{Clause}
use Rattle.plai_clauses.specs.Program.{ProgramView}
use Rattle.plai_eval.specs.Meaning.{as_domain, as_program}
use Rattle.plai_eval.specs.Evaluation.{evaluation}
use Rattle.plai_eval.specs.LeastTable.{row_of, IsLeastTable}
use Rattle.plai_eval.specs.Stops.{IsOver}
use Rattle.plai_fix.specs.declared.solve_fail.SolveFail.{SolveFail}
use Rattle.plai_fix.specs.declared.solve_fail.SolveFail.TheVariants as solve_fail
use Rattle.plai_fix_laws.specs.WorkStates.{clause_at}
use Rattle.plai_fix_rows.specs.Told.{PlainRow, work_over}
use Rattle.plai_analysis.specs.Starts.{IsStart}

-- legal work on the program, from no rows or from those that an edit keeps, leads to these rows
pub record HasWorked (p : PlainDomain) (program : ProgramView) (limit : ℕ) (rows : List (WorkRow (as_domain p))) : Type 0 where
  pub was : Option ProgramView
  pub opened : List PlainRow
  pub start : IsStart p was program opened
  pub log : List (LogEntry (as_domain p))
  pub legal : IsLegalLog (as_domain p) (as_program p program) limit (work_over p opened) log
  pub leads : rows ≡ (after_all (as_domain p) (as_program p program) (work_over p opened) log).rows

-- an entry's name, or one that a live row called, behind such work
abbrev pub IsAskedFor : PlainDomain → ProgramView → ℕ → Name PredKey Abs → Type 0
IsAskedFor p program limit x =
    (rows : List (WorkRow (as_domain p))) × HasWorked p program limit rows × IsDemanded (as_domain p) (as_program p program) rows x

-- More names than the limit are asked for. Each lies at or below a name of the least table, of the same predicate.
pub record AreTooMany (p : PlainDomain) (program : ProgramView) (limit : ℕ) : Type 0 where
  pub names : List (Name PredKey Abs)
  pub many : length names ≡ limit + 1
  pub distinct : AreDistinct names
  pub asked : (x : Name PredKey Abs) → IsIn x names → IsAskedFor p program limit x
  pub below : (table : List patterns.PlainRow) → IsLeastTable p program table → (x : Name PredKey Abs) → IsIn x names
      → HasAbove (as_domain p) (map (row_of p) table) x

-- Behind such work, of no more live rows than the limit, the first set of too many groups in the evaluation of that clause of
-- that live row stands there: its literal, 0 for the head, and its place in the literal's operation.
pub record IsOverThere (p : PlainDomain) (program : ProgramView) (limit : ℕ) (row : RowName) (number literal place : ℕ) : Type 0 where
  pub rows : List (WorkRow (as_domain p))
  pub worked : HasWorked p program limit rows
  pub under : WorkRow (as_domain p)
  pub there : find (as_domain p) rows (record { pred = row.pred; call = row.call }) ≡ Some under
  pub live : under.live ≡ true
  pub some : 1 ≤ number
  pub clause : Clause
  pub is_clause : clause_at (as_domain p) (as_program p program) row.pred number ≡ Some clause
  pub over : (evaluation p (λ x. present_source (as_domain p) rows x.pred x.call) clause row.call).over ≡ Some (literal, place)

-- want of memory is free; the limit is named, and there are too many names; or the program forms a set of too many groups,
-- as the named evaluation does
abbrev pub HasCause : PlainDomain → ProgramView → ℕ → SolveFail → Type 0
HasCause p program limit solve_fail.Memory = Unit {0}
HasCause p program limit (solve_fail.Rows n) = (n ≡ limit) × AreTooMany p program limit
HasCause p program limit (solve_fail.Groups row clause literal place) = IsOver p program × IsOverThere p program limit row clause literal place
