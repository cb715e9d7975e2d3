use Rattle.std.proofs.Common.{◌≡◌, ℕ, List, false, subst, rules}
use Rattle.plai_arcs.specs.Arcs.{is_dirty}
use Rattle.plai_eval.specs.Meaning.{as_domain}
use Rattle.plai_fix_rows.specs.Solving.{listed, IsAtWaking}
use Rattle.plai_fix_rows.specs.Tables.{kept_rows, state_of}
use Rattle.plai_fix_laws.proofs.Extended.{extends_then}
use Rattle.plai_fix_rows.proofs.Placed.{adds_then}
use Rattle.plai_fix_rows.proofs.Meetings.{stops_waking}
use Rattle.plai_fix_rows.proofs.meeting.meet_all.Goals as goal

pub returns-then-not-branch-clause-met : goal.returns-then-not-branch-clause-met
returns-then-not-branch-clause-met g c =
    let p = g.D.Domain.plain c.args.task.now.domain.now in
    let laws = g.met.D.Domain.lawful c.args.task.now.domain.now in
    let program = c.args.task.now.program.now in
    let limit = c.args.task.now.limit in
    let new = state_of g.D.Domain.value_of p c.meet_some.new.table.rows c.args.arcs.now in
    let none : c.in_ok-meet_some.field-0 ≡ false = search rules in
    λ begun cost w.
    stops_waking p laws program c.requires.well_formed limit begun (g.W.Work.entries c.meet_some.new.work) cost new (is_dirty c.meet_some.new.unmet)
    (subst (λ (pairs : List (ℕ × ℕ)). IsAtWaking p program limit begun (g.W.Work.entries c.meet_some.new.work) cost new (listed pairs)
    (is_dirty c.meet_some.new.unmet)) (c.in_ok-meet_some.ensures.whole none) (c.in_ok-meet_some.ensures.met begun cost (c.loop.invariant.met begun cost w)))

pub returns-then-not-branch-clause-extends : goal.returns-then-not-branch-clause-extends
returns-then-not-branch-clause-extends g c =
    let p = g.D.Domain.plain c.args.task.now.domain.now in
    let value_of = g.D.Domain.value_of in
    extends_then (as_domain p) (kept_rows value_of p c.args.table.now.rows) (kept_rows value_of p c.loop.table.rows)
    (kept_rows value_of p c.meet_some.new.table.rows) c.loop.invariant.extends c.in_ok-meet_some.ensures.extends

pub returns-then-not-branch-clause-adds : goal.returns-then-not-branch-clause-adds
returns-then-not-branch-clause-adds g c =
    let p = g.D.Domain.plain c.args.task.now.domain.now in
    let value_of = g.D.Domain.value_of in
    adds_then (as_domain p) c.args.task.now.limit (state_of value_of p c.args.table.now.rows c.args.arcs.now)
    (state_of value_of p c.loop.table.rows c.args.arcs.now) (state_of value_of p c.meet_some.new.table.rows c.args.arcs.now)
    c.loop.invariant.adds c.in_ok-meet_some.ensures.adds

pub loop-preserved : goal.loop-preserved
loop-preserved g c =
    let p = g.D.Domain.plain c.args.task.now.domain.now in
    let value_of = g.D.Domain.value_of in
    record {
      met = λ begun cost w. c.in_ok-meet_some.ensures.met begun cost (c.loop.invariant.met begun cost w);
      adds = adds_then (as_domain p) c.args.task.now.limit (state_of value_of p c.args.table.now.rows c.args.arcs.now)
          (state_of value_of p c.loop.table.rows c.args.arcs.now) (state_of value_of p c.meet_some.new.table.rows c.args.arcs.now)
          c.loop.invariant.adds c.in_ok-meet_some.ensures.adds;
      extends = extends_then (as_domain p) (kept_rows value_of p c.args.table.now.rows) (kept_rows value_of p c.loop.table.rows)
          (kept_rows value_of p c.meet_some.new.table.rows) c.loop.invariant.extends c.in_ok-meet_some.ensures.extends;
      queued = λ q. c.in_ok-meet_some.ensures.queued (c.loop.invariant.queued q);
    }
