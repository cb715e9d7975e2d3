-- A pair of a row and a clause whose evaluation is worked in: what it called, the rows of the called names, and its answer
-- (Hermenegildo, Puebla, Marriott and Stuckey 2000). Rows and clauses are numbered from 0.
use Rattle.std.specs.Prelude.{◌≡◌, ◌⊎◌, ℕ, Bool, true, List, Option, Some}
use Rattle.plai_theory.specs.Words.{IsIn, UpTo, item}
use Rattle.plai_theory.specs.Domain.{Domain, Program}
use Rattle.plai_theory.specs.Evaluation.{NameOf, join_of}
use Rattle.plai_theory.specs.LegalWork.{WorkRow, LogEntry, present_source, next_answer, after_all, Work}
use Rattle.plai_theory.specs.Limits.{Limits}
use Rattle.plai_fix_laws.specs.WorkStates.{KeptRow, Keeping, IsNamed}
use Rattle.plai_fix_laws.specs.Logs.{IsWorking, IsEvaluated}

-- The live row of this number has a clause of that number, whose last evaluation called these names.
pub record HasCalled (d : Domain) (g : Program d) (rows : List (WorkRow d)) (n i : ℕ) (called : List (NameOf d)) : Type 0 where
  pub row : WorkRow d
  pub at : item rows n ≡ Some row
  pub live : row.live ≡ true
  pub clause : d.Clause
  pub is_clause : item (g.clauses row.name.pred) i ≡ Some clause
  pub calls : row.calls i ≡ called

-- These rows are some of those of the called names. Each other called name is still left, or has no row, since the table is
-- full.
pub record Links (d : Domain) (kept : List (KeptRow d)) (called : List (NameOf d)) (rows : ℕ → Bool) (left : List (NameOf d)) (full : Bool) : Type 0 where
  pub sound : (j : ℕ) → rows j ≡ true → (y : NameOf d) × IsIn y called × IsNamed d kept j y
  pub whole : (y : NameOf d) → IsIn y called
      → ((j : ℕ) × (rows j ≡ true) × IsNamed d kept j y) ⊎ (IsIn y left ⊎ ((full ≡ true) × ((j : ℕ) → IsNamed d kept j y → ⊥)))
  pub inside : (y : NameOf d) → IsIn y left → IsIn y called
  pub missing : full ≡ true → (y : NameOf d) × IsIn y called × ((j : ℕ) → IsNamed d kept j y → ⊥)

-- Work stands behind the evaluation of the pair, which called these names and gave this answer or none: a
-- growth of the row by it may be due.
pub record HasEvaluated (d : Domain) (g : Program d) (limits : Limits d) (limit : ℕ) (start : Work d) (log : List (LogEntry d)) (k : Keeping d) (open_pair : Option
    (ℕ × ℕ)) (unmet : ℕ → ℕ → Bool)
    (n i : ℕ) (called : List (NameOf d)) (answer : Option d.Value) : Type 0 where
  pub pair : HasCalled d g (after_all d g start log).rows n i called
  pub evaluated : IsEvaluated d g limits limit start log k open_pair n i pair.row.name unmet
  pub next : next_answer d g (after_all d g start log).rows pair.row.name i
      ≡ join_of d (present_source d (after_all d g start log).rows pair.row.name.pred pair.row.name.call) answer
  pub fits : UpTo (d.leq pair.row.name.pred) answer answer

-- Work stands behind that evaluation, and no growth is due. The pair waits for rows of the names that it called.
pub record IsWaiting (d : Domain) (g : Program d) (limits : Limits d) (limit : ℕ) (start : Work d) (log : List (LogEntry d)) (k : Keeping d) (open_pair : Option
    (ℕ × ℕ)) (unmet : ℕ → ℕ → Bool)
    (n i : ℕ) (called : List (NameOf d)) : Type 0 where
  pub working : IsWorking d g limits limit start log k open_pair (Some (n, i)) unmet
  pub pair : HasCalled d g (after_all d g start log).rows n i called
