use Rattle.std.proofs.Common.{ℕ, List, sym, subst}
use Rattle.plai_arcs.specs.Arcs.{is_dirty}
use Rattle.plai_eval.specs.Meaning.{as_domain}
use Rattle.plai_fix_laws.specs.WorkStates.{with_pair}
use Rattle.plai_fix_rows.specs.Solving.{listed, IsAtWaking}
use Rattle.plai_fix_rows.specs.Tables.{kept_rows, state_of}
use Rattle.plai_fix_rows.proofs.Parts.{err_any, err_more, ok_more}
use Rattle.plai_fix_laws.proofs.Extended.{extends_then}
use Rattle.plai_fix_rows.proofs.Placed.{adds_then}
use Rattle.plai_fix_rows.proofs.meeting.meet_called.Goals as goal

pub returns-in_err-meet_pair-clause-told : goal.returns-in_err-meet_pair-clause-told
returns-in_err-meet_pair-clause-told g c =
    let p = g.D.Domain.plain c.args.task.now.domain.now in
    let program = c.args.task.now.program.now in
    let limit = c.args.task.now.limit in
    let old = state_of g.D.Domain.value_of p c.args.table.now.rows c.args.arcs.now in
    err_any _ c.from_residual.result
    (λ begun cost w. c.in_err-meet_pair.ensures.told begun cost
    (subst (λ (pairs : List (ℕ × ℕ)). IsAtWaking p program limit begun (g.W.Work.entries c.args.work.now) cost old
    (with_pair c.args.row c.args.number (listed pairs))
    (is_dirty c.args.unmet.now)) (sym c.new-pending.ensures.items) w))

pub returns-clause-at_work : goal.returns-clause-at_work
returns-clause-at_work g c =
    let p = g.D.Domain.plain c.args.task.now.domain.now in
    let program = c.args.task.now.program.now in
    let limit = c.args.task.now.limit in
    let old = state_of g.D.Domain.value_of p c.args.table.now.rows c.args.arcs.now in
    ok_more _ _ c.meet_all.result c.meet_all.ensures.met
    (λ met begun cost w. met begun cost (c.in_ok-meet_pair.ensures.met begun cost
    (subst (λ (pairs : List (ℕ × ℕ)). IsAtWaking p program limit begun (g.W.Work.entries c.args.work.now) cost old
    (with_pair c.args.row c.args.number (listed pairs))
    (is_dirty c.args.unmet.now)) (sym c.new-pending.ensures.items) w)))

pub returns-clause-told : goal.returns-clause-told
returns-clause-told g c =
    let p = g.D.Domain.plain c.args.task.now.domain.now in
    let program = c.args.task.now.program.now in
    let limit = c.args.task.now.limit in
    let old = state_of g.D.Domain.value_of p c.args.table.now.rows c.args.arcs.now in
    err_more _ _ c.meet_all.result c.meet_all.ensures.told
    (λ told begun cost w. told begun cost (c.in_ok-meet_pair.ensures.met begun cost
    (subst (λ (pairs : List (ℕ × ℕ)). IsAtWaking p program limit begun (g.W.Work.entries c.args.work.now) cost old
    (with_pair c.args.row c.args.number (listed pairs))
    (is_dirty c.args.unmet.now)) (sym c.new-pending.ensures.items) w)))

pub returns-clause-adds : goal.returns-clause-adds
returns-clause-adds g c =
    let p = g.D.Domain.plain c.args.task.now.domain.now in
    let value_of = g.D.Domain.value_of in
    ok_more _ _ c.meet_all.result c.meet_all.ensures.adds
    (λ adds. adds_then (as_domain p) c.args.task.now.limit (state_of value_of p c.args.table.now.rows c.args.arcs.now)
    (state_of value_of p c.meet_pair.new.table.rows c.args.arcs.now) (state_of value_of p c.meet_all.new.table.rows c.args.arcs.now)
    c.in_ok-meet_pair.ensures.adds adds)

pub returns-clause-extends : goal.returns-clause-extends
returns-clause-extends g c =
    let p = g.D.Domain.plain c.args.task.now.domain.now in
    let value_of = g.D.Domain.value_of in
    ok_more _ _ c.meet_all.result c.meet_all.ensures.extends
    (λ extends. extends_then (as_domain p) (kept_rows value_of p c.args.table.now.rows) (kept_rows value_of p c.meet_pair.new.table.rows)
    (kept_rows value_of p c.meet_all.new.table.rows) c.in_ok-meet_pair.ensures.extends extends)
