-- What is told of the work behind an edit (Hermenegildo, Puebla, Marriott and Stuckey 2000).
use Rattle.std.specs.Prelude.{◌≡◌, ◌⊎◌, ℕ, List, Option}
use Rattle.plai_domain.specs.declared.work.WorkEntry.{WorkEntry}
use Rattle.plai_domain.specs.declared.work.WorkEntry.TheVariants.{Mark}
use Rattle.plai_domain.specs.Noted.{noted}
use Rattle.plai_domain.specs.Plain.{PlainDomain}
use Rattle.plai_clauses.specs.Program.{ProgramView}
use Rattle.plai_fix.specs.declared.solve_fail.SolveFail.TheVariants as solve_fail
use Rattle.plai_analysis.specs.Work.{HasEnded, HasStopped}
use Rattle.plai_session.specs.declared.answer.EditAnswer.{EditAnswer}
use Rattle.plai_session.specs.declared.answer.EditAnswer.TheVariants.{Table, Refused, StoppedRows, StoppedGroups}

-- The work begins with the mark of this number. Behind a quiet edit of the program whose table was kept nothing more is told, and
-- no step is taken. Else a legal log is told from the rows that the edit keeps, or from none where there was no such table; it
-- ends where there is a table, or stops so. So many steps are within its cost.
abbrev pub IsWorkOf : PlainDomain → ℕ → Option ProgramView → ProgramView → ℕ → Option (List WorkEntry) → Option (List WorkEntry) → ℕ → EditAnswer → Type 0
IsWorkOf p limit was program number before after steps Table = HasEnded p was program limit (noted (Mark number) before) after steps
IsWorkOf p limit was program number before after steps (Refused cause) = ⊥
IsWorkOf p limit was program number before after steps (StoppedRows most) =
    HasStopped p was program limit (noted (Mark number) before) after steps (solve_fail.Rows most)
IsWorkOf p limit was program number before after steps (StoppedGroups row clause literal place) =
    HasStopped p was program limit (noted (Mark number) before) after steps (solve_fail.Groups row clause literal place)

-- want of memory cut the work off: it did not begin, or nothing or a legal log is told behind the mark
abbrev pub IsCutOff : PlainDomain → ℕ → Option ProgramView → ProgramView → ℕ → Option (List WorkEntry) → Option (List WorkEntry) → Type 0
IsCutOff p limit was program number before after =
    (after ≡ before) ⊎ HasStopped p was program limit (noted (Mark number) before) after 0 solve_fail.Memory
