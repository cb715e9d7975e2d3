use Rattle.std.proofs.Common.{refl, ap, Err}
use Rattle.plai_base.specs.Causes.{Rose}
use Rattle.plai_top.proofs.Deciding.{as_program, as_line, stop_outcome, line_outcome, script_plan, program_keeps_early, program_unread, line_keeps_early}
use Rattle.plai_top.proofs.Deciding.{stop_keeps_early}
use Rattle.plai_top.proofs.Worked.{task_for}
use Rattle.plai_top.proofs.plan.over_files.Goals as goal

pub returns-in-Program-clause-outcome : goal.returns-in-Program-clause-outcome
returns-in-Program-clause-outcome g c = λ words command.
    let told = g.B.Library.files c.args.library.now in
    let made = c.in-Ok.field-0 in
    script_plan words made.task c.in-Program.program told (g.S.Source.left c.args.script.now) c.with_script.result
    (as_program words told made (c.in-Ok.ensures.outcome words command) made.task c.in-Program.program refl c.in-Program.is) c.with_script.ensures.plan

pub returns-in-Program-clause-early : goal.returns-in-Program-clause-early
returns-in-Program-clause-early g c = λ words command.
    let told = g.B.Library.files c.args.library.now in
    let made = c.in-Ok.field-0 in
    program_keeps_early words made.task c.in-Program.program told c.with_script.result
    (Rose (g.B.Library.faults c.args.library.now) (g.B.Library.faults c.prepare.new.library))
    (as_program words told made (c.in-Ok.ensures.outcome words command) made.task c.in-Program.program refl c.in-Program.is)

pub returns-in-Program-clause-unread_script : goal.returns-in-Program-clause-unread_script
returns-in-Program-clause-unread_script g c = λ words command.
    let told = g.B.Library.files c.args.library.now in
    let made = c.in-Ok.field-0 in
    program_unread words made.task c.in-Program.program told _
    (as_program words told made (c.in-Ok.ensures.outcome words command) made.task c.in-Program.program refl c.in-Program.is)

pub returns-in-Refused-clause-outcome : goal.returns-in-Refused-clause-outcome
returns-in-Refused-clause-outcome g c = λ words command.
    let told = g.B.Library.files c.args.library.now in
    line_outcome words told _ _ (as_line words told c.in-Ok.field-0 (c.in-Ok.ensures.outcome words command) c.in-Refused.bytes c.in-Refused.is)

pub returns-in-Err-clause-outcome : goal.returns-in-Err-clause-outcome
returns-in-Err-clause-outcome g c = λ words command.
    stop_outcome words (g.B.Library.files c.args.library.now) _ _ (c.in-Err.ensures.outcome words command)

pub returns-in-Err-clause-early : goal.returns-in-Err-clause-early
returns-in-Err-clause-early g c = λ words command.
    stop_keeps_early words (g.B.Library.files c.args.library.now) _ _ (c.in-Err.ensures.outcome words command) (λ e. c.in-Err.ensures.failed (ap Err e))

pub returns-in-Refused-clause-early : goal.returns-in-Refused-clause-early
returns-in-Refused-clause-early g c = λ words command.
    let told = g.B.Library.files c.args.library.now in
    line_keeps_early words told c.in-Refused.bytes (Rose (g.B.Library.faults c.args.library.now) (g.B.Library.faults c.prepare.new.library))
    (as_line words told c.in-Ok.field-0 (c.in-Ok.ensures.outcome words command) c.in-Refused.bytes c.in-Refused.is)

pub returns-in-Program-clause-task : goal.returns-in-Program-clause-task
returns-in-Program-clause-task g c =
    let made = c.in-Ok.field-0 in
    task_for made.task _ c.in-Ok.ensures.task c.with_script.result c.with_script.ensures.task
