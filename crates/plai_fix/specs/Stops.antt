-- How work on a program ends, and why it comes to no end (Hermenegildo, Puebla, Marriott and Stuckey 2000).
use Rattle.std.specs.Prelude.{◌≡◌, ℕ, ◌+◌, ◌-◌, ◌≤◌, true, false, List, Option, Some, None}
use Rattle.plai_theory.specs.Words.{item}
use Rattle.plai_theory.specs.Domain.{Domain, Program, Name}
use Rattle.plai_theory.specs.Evaluation.{NameOf}
use Rattle.plai_theory.specs.LegalWork.{WorkRow, LogEntry, find, present_source, live_count, IsLegalLog, Work, after_all}
use Rattle.plai_theory.specs.Limits.{AllFit}
use Rattle.plai_theory.specs.Claims.{IsWholeLog, IsStoppedLog}
use Rattle.plai_terms.specs.declared.abs.Abs.{Abs}
use Rattle.plai_terms.specs.declared.pred_key.PredKey.{PredKey}
use Rattle.plai_terms.specs.declared.row_name.RowName.{RowName}
use Rattle.plai_domain.specs.declared.work.WorkEntry.{WorkEntry}
use Rattle.plai_domain.specs.Plain.{PlainDomain}
use Rattle.plai_clauses.specs.declared.clause.Clause.{Clause}
use Rattle.plai_clauses.specs.Program.{ProgramView}
use Rattle.plai_eval.specs.Meaning.{row_name, as_domain, as_limits, as_program}
use Rattle.plai_eval.specs.Evaluation.{evaluation}
use Rattle.plai_eval.specs.Cost.{cost_of}
use Rattle.plai_fix.specs.declared.solve_fail.SolveFail.{SolveFail}
use Rattle.plai_fix.specs.declared.solve_fail.SolveFail.TheVariants as solve_fail
use Rattle.plai_fix_laws.specs.WorkStates.{Keeping, Keeps, clause_at}
use Rattle.plai_fix_rows.specs.Told.{Origin, start_of, HasLog, HasLegalLog, log_cost}

-- no clause of a live row is dirty
abbrev pub AreClean : (d : Domain) → Program d → List (WorkRow d) → Type 0
AreClean d g rows =
    (x : NameOf d) (r : WorkRow d) → find d rows x ≡ Some r → r.live ≡ true → (i : ℕ) (c : d.Clause) → item (g.clauses x.pred) i ≡ Some c → r.dirty i ≡ false

-- The log is legal and ends. No evaluation of it forms a set of too many groups. The table and its arcs keep what it leads
-- to, with at most as many live rows as the limit says.
pub record IsSolvedBy (p : PlainDomain) (program : ProgramView) (limit : ℕ) (start : Work (as_domain p)) (k : Keeping (as_domain p)) (log : List (LogEntry (as_domain p))) : Type 0 where
  pub whole : IsWholeLog (as_domain p) (as_program p program) limit start log
  pub fits : AllFit (as_domain p) (as_program p program) (as_limits p) start log
  pub keeps : Keeps (as_domain p) (as_program p program) k None (after_all (as_domain p) (as_program p program) start log).rows
  pub few : live_count (as_domain p) (after_all (as_domain p) (as_program p program) start log).rows ≤ limit

-- The log is legal and stops where a further name is demanded: the limit of live rows is met, no clause of one is dirty, and
-- no growth is due. No evaluation of it forms a set of too many groups.
pub record IsStoppedAt (p : PlainDomain) (program : ProgramView) (limit : ℕ) (start : Work (as_domain p)) (log : List (LogEntry (as_domain p))) : Type 0 where
  pub name : Name PredKey Abs
  pub stopped : IsStoppedLog (as_domain p) (as_program p program) limit start log name
  pub fits : AllFit (as_domain p) (as_program p program) (as_limits p) start log
  pub met : live_count (as_domain p) (after_all (as_domain p) (as_program p program) start log).rows ≡ limit
  pub clean : AreClean (as_domain p) (as_program p program) (after_all (as_domain p) (as_program p program) start log).rows

-- The log is legal. Behind it the clause of this number, from 1, of the live row is dirty, and its evaluation forms its first
-- set of too many groups there. So many steps are within the log's cost and that of the clause.
pub record IsOverBehind (p : PlainDomain) (program : ProgramView) (limit : ℕ) (start : Work (as_domain p)) (steps : ℕ) (row : RowName) (number literal place : ℕ)
    (log : List (LogEntry (as_domain p))) : Type 0 where
  pub legal : IsLegalLog (as_domain p) (as_program p program) limit start log
  pub fits : AllFit (as_domain p) (as_program p program) (as_limits p) start log
  pub name : Name PredKey Abs
  pub is_row : row ≡ row_name name
  pub under : WorkRow (as_domain p)
  pub there : find (as_domain p) (after_all (as_domain p) (as_program p program) start log).rows name ≡ Some under
  pub live : under.live ≡ true
  pub some : 1 ≤ number
  pub dirty : under.dirty (number - 1) ≡ true
  pub clause : Clause
  pub is_clause : clause_at (as_domain p) (as_program p program) name.pred number ≡ Some clause
  pub over : (evaluation p (λ x. present_source (as_domain p) (after_all (as_domain p) (as_program p program)
      start log).rows x.pred x.call) clause name.call).over
      ≡ Some (literal, place)
  pub within_all : steps ≤ log_cost p program log + cost_of clause

-- why work that began there comes to no end; want of memory is free, but what was told is a legal log
abbrev pub Stops : (p : PlainDomain) → ProgramView → ℕ → Origin → Option (List WorkEntry) → ℕ → SolveFail → Type 0
Stops p program limit begun told steps solve_fail.Memory =
    HasLegalLog p program limit begun told
Stops p program limit begun told steps (solve_fail.Rows n) = (n ≡ limit) × HasLog p program begun.told told steps (IsStoppedAt p program limit (start_of p begun))
Stops p program limit begun told steps (solve_fail.Groups row number literal place) = HasLog p program begun.told told 0
    (IsOverBehind p program limit (start_of p begun) steps row number literal place)
