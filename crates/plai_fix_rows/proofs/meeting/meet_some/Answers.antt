use Rattle.std.proofs.Common.{subst, arith}
use Rattle.plai_arcs.specs.Arcs.{is_dirty}
use Rattle.plai_eval.specs.Meaning.{as_domain}
use Rattle.plai_fix_rows.specs.Tables.{kept_rows, state_of}
use Rattle.plai_fix_rows.specs.Solving.{IsAtWaking}
use Rattle.plai_fix_rows.proofs.Parts.{err_any}
use Rattle.plai_fix_laws.proofs.Extended.{extends_then}
use Rattle.plai_fix_rows.proofs.Placed.{adds_then}
use Rattle.plai_fix_rows.proofs.TableRows.{kept_lives}
use Rattle.plai_fix_rows.proofs.Awaited.{popped_pair}
use Rattle.plai_fix_rows.proofs.meeting.meet_some.Goals as goal

pub returns-in_err-meet_pair-clause-told : goal.returns-in_err-meet_pair-clause-told
returns-in_err-meet_pair-clause-told g c =
    let p = g.D.Domain.plain c.args.task.now.domain.now in
    let now = state_of g.D.Domain.value_of p c.loop-row.table.rows c.args.arcs.now in
    err_any _ c.from_residual.result
    (λ begun cost w. c.in_err-meet_pair.ensures.told begun cost
    (subst (λ pairs. IsAtWaking p c.args.task.now.program.now c.args.task.now.limit begun (g.W.Work.entries c.loop-row.work) cost now pairs
    (is_dirty c.loop-row.unmet))
    (popped_pair c.loop-row.pending.items c.pop.new.self.items c.in-Some.row c.in-Some.number c.in-Some.ensures.items) (c.loop-row.invariant.met begun cost w)))

pub returns-then-before-live-clause-met : goal.returns-then-before-live-clause-met
returns-then-before-live-clause-met g c =
    let p = g.D.Domain.plain c.args.task.now.domain.now in
    let now = state_of g.D.Domain.value_of p c.loop-row.table.rows c.args.arcs.now in
    λ begun cost w. c.in_ok-meet_pair.ensures.met begun cost
    (subst (λ pairs. IsAtWaking p c.args.task.now.program.now c.args.task.now.limit begun (g.W.Work.entries c.loop-row.work) cost now pairs
    (is_dirty c.loop-row.unmet))
    (popped_pair c.loop-row.pending.items c.pop.new.self.items c.in-Some.row c.in-Some.number c.in-Some.ensures.items) (c.loop-row.invariant.met begun cost w))

pub loop-row-preserved : goal.loop-row-preserved
loop-row-preserved g c =
    let p = g.D.Domain.plain c.args.task.now.domain.now in
    let value_of = g.D.Domain.value_of in
    let limit = c.args.task.now.limit in
    let rows = c.args.table.now.rows in
    let old = state_of value_of p rows c.args.arcs.now in
    let now = state_of value_of p c.loop-row.table.rows c.args.arcs.now in
    let new = state_of value_of p c.meet_pair.new.table.rows c.args.arcs.now in
    record {
      met = λ begun cost w. c.in_ok-meet_pair.ensures.met begun cost
          (subst (λ pairs. IsAtWaking p c.args.task.now.program.now limit begun (g.W.Work.entries c.loop-row.work) cost now pairs (is_dirty c.loop-row.unmet))
          (popped_pair c.loop-row.pending.items c.pop.new.self.items c.in-Some.row c.in-Some.number c.in-Some.ensures.items)
          (c.loop-row.invariant.met begun cost w));
      same =
          let a = c.loop-row.invariant.same in
          let b = c.in_ok-meet_pair.ensures.adds.more in
          let d = kept_lives _ value_of p rows in
          let e = kept_lives _ value_of p c.meet_pair.new.table.rows in
          omega (arith, c.live-before.ensures, c.live.ensures, c.if-before-live.false);
      adds = adds_then (as_domain p) limit old now new c.loop-row.invariant.adds c.in_ok-meet_pair.ensures.adds;
      extends = extends_then (as_domain p) (kept_rows value_of p rows) (kept_rows value_of p c.loop-row.table.rows)
          (kept_rows value_of p c.meet_pair.new.table.rows) c.loop-row.invariant.extends c.in_ok-meet_pair.ensures.extends;
      queued = λ q. c.in_ok-meet_pair.ensures.queued (c.loop-row.invariant.queued q);
    }
