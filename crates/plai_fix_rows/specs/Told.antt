-- Logs of legal work as they are told: the entries that are noted, in order, and what the evaluations among them cost
-- (Hermenegildo, Puebla, Marriott and Stuckey 2000). Clauses are counted from 0 in logs, from 1 in what is told.
use Rattle.std.specs.Prelude.{◌≡◌, ℕ, suc, ◌+◌, ◌≤◌, Bool, map, List, [], ◌∷◌, ◌++◌, Option, Some, None}
use Rattle.plai_theory.specs.Words.{given, item}
use Rattle.plai_theory.specs.LegalWork.{WorkRow, Work, LogEntry, Made, Woke, Evaluated, Grew, IsLegalLog}
use Rattle.plai_theory.specs.Domain.{Name}
use Rattle.plai_terms.specs.declared.abs.Abs.{Abs}
use Rattle.plai_terms.specs.declared.pred_key.PredKey.{PredKey}
use Rattle.plai_domain.specs.declared.work.WorkEntry.{WorkEntry}
use Rattle.plai_domain.specs.declared.work.WorkEntry.TheVariants as entries
use Rattle.plai_domain.specs.Plain.{PlainDomain}
use Rattle.plai_clauses.specs.Program.{ProgramView, clauses_of}
use Rattle.plai_eval.specs.Meaning.{row_name, as_domain, as_program}
use Rattle.plai_eval.specs.Cost.{cost_of}

-- what an entry of a log tells; no answer grows to none
abbrev pub entry_told : (p : PlainDomain) → LogEntry (as_domain p) → List WorkEntry
entry_told p (Made x) = entries.Made (row_name x) ∷ []
entry_told p (Woke x) = entries.Woke (row_name x) ∷ []
entry_told p (Evaluated x i) = entries.Evaluated (row_name x) (suc i) ∷ []
entry_told p (Grew x None) = []
entry_told p (Grew x (Some a)) = entries.Grew (row_name x) a ∷ []

abbrev pub log_told : (p : PlainDomain) → List (LogEntry (as_domain p)) → List WorkEntry
log_told p [] = []
log_told p (e ∷ log) = entry_told p e ++ log_told p log

-- what is told behind what was told at the start, where it is told
abbrev pub told_after : (p : PlainDomain) → Option (List WorkEntry) → List (LogEntry (as_domain p)) → Option (List WorkEntry)
told_after p None log = None
told_after p (Some begun) log = Some (begun ++ log_told p log)

-- an evaluation costs what its clause does, and one more step for the join
abbrev pub entry_cost : (p : PlainDomain) → ProgramView → LogEntry (as_domain p) → ℕ
entry_cost p program (Made x) = 0
entry_cost p program (Woke x) = 0
entry_cost p program (Evaluated x i) = given 0 (λ c. cost_of c + 1) (item (clauses_of program x.pred) i)
entry_cost p program (Grew x a) = 0

abbrev pub log_cost : (p : PlainDomain) → ProgramView → List (LogEntry (as_domain p)) → ℕ
log_cost p program [] = 0
log_cost p program (e ∷ log) = entry_cost p program e + log_cost p program log

-- What is told of a row under work: it says the same over every domain.
pub record PlainRow : Type 0 where
  pub name : Name PredKey Abs
  pub answer : Option Abs
  pub live : Bool
  pub dirty : ℕ → Bool
  pub calls : ℕ → List (Name PredKey Abs)

abbrev pub row_under : (p : PlainDomain) → PlainRow → WorkRow (as_domain p)
row_under p r = record { name = r.name; answer = r.answer; live = r.live; dirty = r.dirty; calls = r.calls }

-- work that opens with these rows
abbrev pub work_over : (p : PlainDomain) → List PlainRow → Work (as_domain p)
work_over p rows = record { rows = map (row_under p) rows; last = None }

-- Where work begins: its rows, and what was told before.
pub record Origin : Type 0 where
  pub rows : List PlainRow
  pub told : Option (List WorkEntry)

abbrev pub start_of : (p : PlainDomain) → Origin → Work (as_domain p)
start_of p begun = work_over p begun.rows

-- The same, and how many steps were counted before.
pub record Start : Type 0 where
  pub origin : Origin
  pub steps : ℕ

-- There is a log of which this holds. What was told since the start is the log, and so many steps are within its cost.
pub record HasLog (p : PlainDomain) (program : ProgramView) (begun told : Option (List WorkEntry)) (steps : ℕ)
    (Is : List (LogEntry (as_domain p)) → Type 0) : Type 0 where
  pub log : List (LogEntry (as_domain p))
  pub is : Is log
  pub is_told : told ≡ told_after p begun log
  pub within : steps ≤ log_cost p program log

-- what was told since work began there is a legal log
abbrev pub HasLegalLog : (p : PlainDomain) → ProgramView → ℕ → Origin → Option (List WorkEntry) → Type 0
HasLegalLog p program limit begun told = HasLog p program begun.told told 0 (IsLegalLog (as_domain p) (as_program p program) limit (start_of p begun))
