-- What is told of the work of an analysis: a legal log, or nothing behind a quiet edit (Hermenegildo, Puebla, Marriott and
-- Stuckey 2000).
use Rattle.std.specs.Prelude.{◌≡◌, ◌⊎◌, ℕ, List, Option}
use Rattle.plai_theory.specs.Claims.{IsWholeLog}
use Rattle.plai_domain.specs.declared.work.WorkEntry.{WorkEntry}
use Rattle.plai_domain.specs.Plain.{PlainDomain}
use Rattle.plai_clauses.specs.Program.{ProgramView}
use Rattle.plai_eval.specs.Meaning.{as_domain, as_program}
use Rattle.plai_fix.specs.declared.solve_fail.SolveFail.{SolveFail}
use Rattle.plai_fix.specs.declared.solve_fail.SolveFail.TheVariants.{Memory}
use Rattle.plai_fix_rows.specs.Told.{PlainRow, work_over, HasLog}
use Rattle.plai_fix.specs.Stops.{Stops}
use Rattle.plai_analysis.specs.Caused.{IsCarefulStart}
use Rattle.plai_analysis.specs.Quiet.{IsQuietAfter}

-- There is a log that is legal from the rows with which work on the program begins behind that one, and ends; it evaluates clauses
-- of those rows only by a cause. What was told since the start is the log, and so many steps are within its cost.
abbrev pub HasWhole : (p : PlainDomain) → Option ProgramView → ProgramView → ℕ → Option (List WorkEntry) → Option (List WorkEntry) → ℕ → Type 0
HasWhole p was program limit begun told steps =
    (opened : List PlainRow) × IsCarefulStart p was program limit opened
    × HasLog p program begun told steps (IsWholeLog (as_domain p) (as_program p program) limit (work_over p opened))

-- behind a quiet edit nothing is told, and no step is taken; else there is such a log
pub data HasEnded (p : PlainDomain) (was : Option ProgramView) (program : ProgramView) (limit : ℕ) (begun told : Option (List WorkEntry)) (steps : ℕ)
    : Type 0 where
  Quiet : IsQuietAfter p was program → told ≡ begun → steps ≡ 0 → HasEnded p was program limit begun told steps
  Whole : (IsQuietAfter p was program → ⊥) → HasWhole p was program limit begun told steps → HasEnded p was program limit begun told steps

-- there is a log, legal from such rows, that stops so, or that want of memory cut off
abbrev pub StopsFrom : (p : PlainDomain) → Option ProgramView → ProgramView → ℕ → Option (List WorkEntry) → Option (List WorkEntry) → ℕ → SolveFail → Type 0
StopsFrom p was program limit begun told steps fail =
    (opened : List PlainRow) × IsCarefulStart p was program limit opened × Stops p program limit (record { rows = opened; told = begun }) told steps fail

-- memory was wanting where nothing was told; or the edit is not quiet, and there is such a log
abbrev pub HasStopped : (p : PlainDomain) → Option ProgramView → ProgramView → ℕ → Option (List WorkEntry) → Option (List WorkEntry) → ℕ → SolveFail → Type 0
HasStopped p was program limit begun told steps fail =
    ((fail ≡ Memory) × (told ≡ begun)) ⊎ ((IsQuietAfter p was program → ⊥) × StopsFrom p was program limit begun told steps fail)
