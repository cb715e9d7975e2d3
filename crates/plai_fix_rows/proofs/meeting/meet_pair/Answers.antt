use Rattle.std.proofs.Common.{◌∙◌, Bool, sym, refl, subst}
use Rattle.plai_arcs.specs.Arcs.{is_dirty, is_call}
use Rattle.plai_fix_rows.specs.Solving.{listed, IsMeeting}
use Rattle.plai_fix_rows.specs.Tables.{state_of}
use Rattle.plai_fix_rows.proofs.Parts.{ok_more}
use Rattle.plai_fix_rows.proofs.Meetings.{drops_told, meets_told, leaves_told}
use Rattle.plai_fix_rows.proofs.meeting.meet_pair.Goals as goal

pub returns-then-is_marked-clause-met : goal.returns-then-is_marked-clause-met
returns-then-is_marked-clause-met g c =
    let p = g.D.Domain.plain c.args.task.now.domain.now in
    let laws = g.met.D.Domain.lawful c.args.task.now.domain.now in
    λ begun cost w.
    drops_told p laws c.args.task.now.program.now c.requires.well_formed c.args.task.now.limit begun (g.W.Work.entries c.args.work.now) cost
    (state_of g.D.Domain.value_of p c.args.table.now.rows c.args.arcs.now) (listed c.args.pending.now.items) (is_dirty c.args.unmet.now) c.args.row
    c.args.number
    w (sym c.is_marked.ensures ∙ c.if-is_marked.true)

pub returns-then-branch-clause-met : goal.returns-then-branch-clause-met
returns-then-branch-clause-met g c =
    let p = g.D.Domain.plain c.args.task.now.domain.now in
    let value_of = g.D.Domain.value_of in
    let program = c.args.task.now.program.now in
    let limit = c.args.task.now.limit in
    let laws = g.met.D.Domain.lawful c.args.task.now.domain.now in
    let new = state_of value_of p c.meet_calls.new.table.rows c.args.arcs.now in
    ok_more _ _ c.mark_dirty.result c.mark_dirty.ensures.ok
    (λ marks begun cost w.
    leaves_told p laws program c.requires.well_formed limit begun (g.W.Work.entries c.meet_calls.new.work) cost new
    (listed c.meet_calls.new.pending.items) (is_dirty c.args.unmet.now) c.args.row c.args.number (is_call c.args.arcs.now c.args.row c.args.number) (λ j. refl)
    (subst (λ (b : Bool). IsMeeting p program limit begun (g.W.Work.entries c.meet_calls.new.work) cost new (listed c.meet_calls.new.pending.items)
    (is_dirty c.args.unmet.now) c.args.row c.args.number (is_call c.args.arcs.now c.args.row c.args.number) b) c.if-branch.true
    (c.in_ok-meet_calls.ensures.meeting begun cost (is_dirty c.args.unmet.now) w)) (is_dirty c.mark_dirty.new.self) marks)

pub returns-clause-met : goal.returns-clause-met
returns-clause-met g c =
    let p = g.D.Domain.plain c.args.task.now.domain.now in
    let value_of = g.D.Domain.value_of in
    let program = c.args.task.now.program.now in
    let limit = c.args.task.now.limit in
    let laws = g.met.D.Domain.lawful c.args.task.now.domain.now in
    let new = state_of value_of p c.meet_calls.new.table.rows c.args.arcs.now in
    λ begun cost w.
    meets_told p laws program c.requires.well_formed limit begun (g.W.Work.entries c.meet_calls.new.work) cost new
    (listed c.meet_calls.new.pending.items) (is_dirty c.args.unmet.now) c.args.row c.args.number (is_call c.args.arcs.now c.args.row c.args.number) (λ j. refl)
    (subst (λ (b : Bool). IsMeeting p program limit begun (g.W.Work.entries c.meet_calls.new.work) cost new (listed c.meet_calls.new.pending.items)
    (is_dirty c.args.unmet.now) c.args.row c.args.number (is_call c.args.arcs.now c.args.row c.args.number) b) c.if-branch.false
    (c.in_ok-meet_calls.ensures.meeting begun cost (is_dirty c.args.unmet.now) w))
