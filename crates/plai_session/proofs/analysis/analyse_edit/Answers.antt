use Rattle.std.proofs.Common.{inr}
use Rattle.plai_session.proofs.analysis.analyse_edit.Goals as goal

pub returns-in-Err-Rows-clause-work : goal.returns-in-Err-Rows-clause-work
returns-in-Err-Rows-clause-work g c = rw (← c.in_ok-note.ensures.ok) (rw c.in-Err-Rows.field-0-is at c.in-Err-Rows.ensures.stopped)

pub returns-in-Err-Groups-clause-work : goal.returns-in-Err-Groups-clause-work
returns-in-Err-Groups-clause-work g c = rw (← c.in_ok-note.ensures.ok) (rw c.in-Err-Groups.field-0-is at c.in-Err-Groups.ensures.stopped)

pub returns-in-Err-Memory-clause-cut_off : goal.returns-in-Err-Memory-clause-cut_off
returns-in-Err-Memory-clause-cut_off g c = inr (rw (← c.in_ok-note.ensures.ok) (rw c.in-Err-Memory.field-0-is at c.in-Err-Memory.ensures.stopped))
