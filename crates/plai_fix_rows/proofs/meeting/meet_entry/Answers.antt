use Rattle.std.proofs.Common.{[], ℕ, List, None, subst}
use Rattle.plai_arcs.specs.Arcs.{is_dirty}
use Rattle.plai_eval.specs.Meaning.{as_domain}
use Rattle.plai_fix_laws.specs.WorkStates.{no_pair}
use Rattle.plai_fix_rows.specs.Solving.{listed, Rouses}
use Rattle.plai_fix_rows.specs.Tables.{kept_rows, state_of}
use Rattle.plai_fix_rows.proofs.Parts.{err_more, ok_more}
use Rattle.plai_fix_laws.proofs.Extended.{extends_then}
use Rattle.plai_fix_rows.proofs.TableRows.{is_there, row_there, kept_at}
use Rattle.plai_fix_laws.proofs.Pairs.{is_named}
use Rattle.plai_fix_laws.proofs.Places.{there}
use Rattle.plai_fix_rows.proofs.Roused.{roused_entry, roused_live, live_on}
use Rattle.plai_fix_rows.proofs.meeting.meet_entry.Goals as goal

pub returns-clause-at_work : goal.returns-clause-at_work
returns-clause-at_work g c =
    let p = g.D.Domain.plain c.args.task.now.domain.now in
    let value_of = g.D.Domain.value_of in
    let laws = g.met.D.Domain.lawful c.args.task.now.domain.now in
    let program = c.args.task.now.program.now in
    let limit = c.args.task.now.limit in
    let old = state_of value_of p c.args.table.now.rows c.args.arcs.now in
    ok_more _ _ c.meet_all.result c.meet_all.ensures.met
    (λ met begun cost x named inside w. met begun cost
    (roused_entry p laws program c.requires.well_formed limit begun (g.W.Work.entries c.args.work.now) cost old no_pair (is_dirty c.args.unmet.now)
    c.args.row x named
    inside w c.in_ok-rouse.field-0 (state_of value_of p c.rouse.new.table.rows c.args.arcs.now) (g.W.Work.entries c.rouse.new.work)
    (listed c.rouse.new.pending.items)
    (subst (λ (pairs : List (ℕ × ℕ)). Rouses p program limit c.args.row old (g.W.Work.entries c.args.work.now) (listed pairs)
    (state_of value_of p c.rouse.new.table.rows c.args.arcs.now) (g.W.Work.entries c.rouse.new.work) (listed c.rouse.new.pending.items) c.in_ok-rouse.field-0)
    c.new-pending.ensures.items (c.in_ok-rouse.ensures.roused (is_there _ value_of p c.args.table.now.rows c.args.row
    (is_named (as_domain p) (kept_rows value_of p c.args.table.now.rows) c.args.row x named))))))

pub returns-clause-told : goal.returns-clause-told
returns-clause-told g c =
    let p = g.D.Domain.plain c.args.task.now.domain.now in
    let value_of = g.D.Domain.value_of in
    let laws = g.met.D.Domain.lawful c.args.task.now.domain.now in
    let program = c.args.task.now.program.now in
    let limit = c.args.task.now.limit in
    let old = state_of value_of p c.args.table.now.rows c.args.arcs.now in
    err_more _ _ c.meet_all.result c.meet_all.ensures.told
    (λ told begun cost x named inside w. told begun cost
    (roused_entry p laws program c.requires.well_formed limit begun (g.W.Work.entries c.args.work.now) cost old no_pair (is_dirty c.args.unmet.now)
    c.args.row x named
    inside w c.in_ok-rouse.field-0 (state_of value_of p c.rouse.new.table.rows c.args.arcs.now) (g.W.Work.entries c.rouse.new.work)
    (listed c.rouse.new.pending.items)
    (subst (λ (pairs : List (ℕ × ℕ)). Rouses p program limit c.args.row old (g.W.Work.entries c.args.work.now) (listed pairs)
    (state_of value_of p c.rouse.new.table.rows c.args.arcs.now) (g.W.Work.entries c.rouse.new.work) (listed c.rouse.new.pending.items) c.in_ok-rouse.field-0)
    c.new-pending.ensures.items (c.in_ok-rouse.ensures.roused (is_there _ value_of p c.args.table.now.rows c.args.row
    (is_named (as_domain p) (kept_rows value_of p c.args.table.now.rows) c.args.row x named))))))

pub returns-clause-live : goal.returns-clause-live
returns-clause-live g c =
    let p = g.D.Domain.plain c.args.task.now.domain.now in
    let value_of = g.D.Domain.value_of in
    let laws = g.met.D.Domain.lawful c.args.task.now.domain.now in
    let program = c.args.task.now.program.now in
    let limit = c.args.task.now.limit in
    let old = state_of value_of p c.args.table.now.rows c.args.arcs.now in
    ok_more _ _ c.meet_all.result c.meet_all.ensures.extends
    (λ extends h.
    let (r, at) = row_there _ value_of p c.args.table.now.rows c.args.row h in
    live_on (as_domain p) limit (kept_rows value_of p c.rouse.new.table.rows) (kept_rows value_of p c.meet_all.new.table.rows) c.args.row extends
    (roused_live p laws program c.requires.well_formed limit (record { rows = []; told = None })
    (g.W.Work.entries c.args.work.now) 0 old (listed c.new-pending.result.items) no_pair c.args.row c.in_ok-rouse.field-0
    (state_of value_of p c.rouse.new.table.rows c.args.arcs.now) (g.W.Work.entries c.rouse.new.work) (listed c.rouse.new.pending.items)
    (there _ _ (kept_at _ value_of p c.args.table.now.rows c.args.row r at)) (c.in_ok-rouse.ensures.roused h)))

pub returns-clause-extends : goal.returns-clause-extends
returns-clause-extends g c =
    let p = g.D.Domain.plain c.args.task.now.domain.now in
    let value_of = g.D.Domain.value_of in
    ok_more _ _ c.meet_all.result c.meet_all.ensures.extends
    (λ extends. extends_then (as_domain p) (kept_rows value_of p c.args.table.now.rows) (kept_rows value_of p c.rouse.new.table.rows)
    (kept_rows value_of p c.meet_all.new.table.rows) c.in_ok-rouse.ensures.extends extends)
