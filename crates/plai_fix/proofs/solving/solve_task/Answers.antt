use Rattle.std.proofs.Common.{◌-◌, None, heap_items, arith, rules}
use Rattle.plai_theory.specs.LegalWork.{IsLegalLog}
use Rattle.plai_arcs.specs.Arcs.{is_dirty}
use Rattle.plai_eval.specs.Meaning.{as_domain, as_program}
use Rattle.plai_fix_rows.specs.Tables.{kept_rows, state_of}
use Rattle.plai_fix_laws.specs.Queues.{IsQueued}
use Rattle.plai_fix_rows.specs.Told.{start_of, HasLog}
use Rattle.plai_fix_rows.specs.Solving.{IsAtWork}
use Rattle.plai_fix_rows.proofs.Parts.{ok_more, if_err}
use Rattle.plai_fix_rows.proofs.TableRows.{is_there}
use Rattle.plai_fix_rows.proofs.OpenedRows.{opened_on}
use Rattle.plai_fix.proofs.Finished.{begins_told, opens_asleep, own_rows, unmet_rows}
use Rattle.plai_fix.proofs.Works.{keeps_of_rows}
use Rattle.plai_eval.proofs.Lawful.{lawful_at}
use Rattle.plai_fix.proofs.solving.solve_task.Goals as goal

pub place_entries-requires-clause-of_rows : goal.place_entries-requires-clause-of_rows
place_entries-requires-clause-of_rows g c =
    let p = g.D.Domain.plain c.args.task.now.domain.now in
    let value_of = g.D.Domain.value_of in
    keeps_of_rows (as_domain p) (as_program p c.args.task.now.program.now) (state_of value_of p c.args.table.now.rows c.args.arcs.now) None _
    c.requires.1.1.1.1.1.1.0.keeps

pub returns-in_err-place_entries-clause-stops : goal.returns-in_err-place_entries-clause-stops
returns-in_err-place_entries-clause-stops g c =
    let p = g.D.Domain.plain c.args.task.now.domain.now in
    let value_of = g.D.Domain.value_of in
    let program = c.args.task.now.program.now in
    let limit = c.args.task.now.limit in
    let steps_same = c.requires.1.1.1.1.1.1.1.1 in
    let cost = c.args.steps.now - g.begun.steps in
    let begins =
    begins_told p program limit g.begun.origin (g.W.Work.entries c.args.work.now) (state_of value_of p c.args.table.now.rows c.args.arcs.now)
    (is_dirty c.in_ok-unmet.unmet)
    c.requires.1.1.1.1.1.1.1.0 c.requires.1.1.1.1.1.1.0 c.in_ok-unmet.ensures.dirty cost (omega (arith, steps_same)) in
    let told : HasLog p program g.begun.origin.told (g.W.Work.entries c.place_entries.new.work) 0
    (IsLegalLog (as_domain p) (as_program p program) limit (start_of p g.begun.origin)) =
    c.in_err-place_entries.ensures.told g.begun.origin cost begins in
    search (rules, told)

pub settle-requires : goal.settle-requires
settle-requires g c =
    let p = g.D.Domain.plain c.args.task.now.domain.now in
    let value_of = g.D.Domain.value_of in
    let program = c.args.task.now.program.now in
    let limit = c.args.task.now.limit in
    let laws = g.met.D.Domain.lawful c.args.task.now.domain.now in
    let steps_same = c.requires.1.1.1.1.1.1.1.1 in
    let cost = c.args.steps.now - g.begun.steps in
    let old = state_of value_of p c.args.table.now.rows c.args.arcs.now in
    let begins =
    begins_told p program limit g.begun.origin (g.W.Work.entries c.args.work.now) old (is_dirty c.in_ok-unmet.unmet)
    c.requires.1.1.1.1.1.1.1.0 c.requires.1.1.1.1.1.1.0 c.in_ok-unmet.ensures.dirty cost (omega (arith, steps_same)) in
    let at_work : IsAtWork p program limit g.begun.origin (g.W.Work.entries c.place_entries.new.work) cost
    (state_of value_of p c.place_entries.new.table.rows c.place_entries.new.arcs)
    (is_dirty c.place_entries.new.unmet) = c.in_ok-place_entries.ensures.at_work g.begun.origin cost begins in
    let queued : IsQueued (state_of value_of p c.place_entries.new.table.rows c.place_entries.new.arcs) (heap_items c.place_entries.new.queue) =
    c.in_ok-place_entries.ensures.queued (λ n m live e. absurd (opens_asleep (as_domain p) (as_program p program)
    (lawful_at p laws program c.requires.1.1.1.1.1.0) (start_of p g.begun.origin) old c.requires.1.1.1.1.1.1.0 n live)) in
    search (rules, at_work, queued)

pub finish-requires-clause-opened : goal.finish-requires-clause-opened
finish-requires-clause-opened g c =
    let p = g.D.Domain.plain c.args.task.now.domain.now in
    let value_of = g.D.Domain.value_of in
    opened_on (as_domain p) (as_program p c.args.task.now.program.now) c.args.task.now.limit (kept_rows value_of p c.place_entries.new.table.rows)
    (kept_rows value_of p c.settle.new.table.rows)
    c.in_ok-settle.ensures.extends c.in_ok-place_entries.ensures.opened

pub finish-requires-clause-one_row : goal.finish-requires-clause-one_row
finish-requires-clause-one_row g c =
    let p = g.D.Domain.plain c.args.task.now.domain.now in
    let value_of = g.D.Domain.value_of in
    let program = c.args.task.now.program.now in
    let limit = c.args.task.now.limit in
    let laws = g.met.D.Domain.lawful c.args.task.now.domain.now in
    let k = state_of value_of p c.settle.new.table.rows c.settle.new.arcs in
    own_rows p laws program c.requires.1.1.1.1.1.0 limit g.begun.origin (g.W.Work.entries c.settle.new.work) (c.settle.new.steps - g.begun.steps) k
    (is_dirty c.settle.new.unmet) c.in_ok-settle.ensures.ready.at_work

pub finish-requires-clause-unmet : goal.finish-requires-clause-unmet
finish-requires-clause-unmet g c =
    let p = g.D.Domain.plain c.args.task.now.domain.now in
    let value_of = g.D.Domain.value_of in
    let program = c.args.task.now.program.now in
    let limit = c.args.task.now.limit in
    let laws = g.met.D.Domain.lawful c.args.task.now.domain.now in
    let k = state_of value_of p c.settle.new.table.rows c.settle.new.arcs in
    λ r m e.
    is_there _ value_of p c.settle.new.table.rows r
    (unmet_rows p laws program c.requires.1.1.1.1.1.0 limit g.begun.origin (g.W.Work.entries c.settle.new.work) (c.settle.new.steps - g.begun.steps) k
    (is_dirty c.settle.new.unmet)
    c.in_ok-settle.ensures.ready.at_work r m e)

pub returns-clause-solved : goal.returns-clause-solved
returns-clause-solved g c =
    ok_more _ _ c.finish.result c.finish.ensures.solved
    (λ h. h g.begun.origin (g.W.Work.entries c.settle.new.work) (c.settle.new.steps - g.begun.steps) c.in_ok-settle.ensures.ready.at_work)

pub returns-clause-stops : goal.returns-clause-stops
returns-clause-stops g c =
    if_err _ _ c.finish.result c.finish.ensures.stops
    (λ fail h. h g.begun.origin (g.W.Work.entries c.settle.new.work) (c.settle.new.steps - g.begun.steps) c.in_ok-settle.ensures.ready.at_work)
