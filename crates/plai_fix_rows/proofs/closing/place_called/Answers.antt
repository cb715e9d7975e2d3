use Rattle.std.proofs.Common.{sym, ◌∙◌, subst}
use Rattle.plai_eval.specs.Meaning.{as_domain, as_program}
use Rattle.plai_fix_rows.specs.Tables.{kept_rows, state_of}
use Rattle.plai_fix_rows.specs.Moves.{Shifts}
use Rattle.plai_fix_rows.proofs.Marked.{is_less, not_less}
use Rattle.plai_fix_rows.proofs.Parts.{err_any}
use Rattle.plai_fix_rows.proofs.TableRows.{kept_lives}
use Rattle.plai_fix_rows.proofs.Closes.{adds_shift}
use Rattle.plai_fix_rows.proofs.Placed.{adds_then}
use Rattle.plai_fix_laws.proofs.Extended.{extends_then}
use Rattle.plai_fix_rows.proofs.closing.place_called.Goals as goal

pub returns-in_err-meet_called-clause-told : goal.returns-in_err-meet_called-clause-told
returns-in_err-meet_called-clause-told g c =
    err_any _ c.from_residual-in_err-meet_called.result
    (λ begun cost called past links. c.in_err-meet_called.ensures.told begun cost (c.in_ok-place_missing.ensures.waking begun cost called past links))

pub returns-clause-at_work : goal.returns-clause-at_work
returns-clause-at_work g c = λ begun cost called past links.
    c.in_ok-meet_called.ensures.at_work begun cost (c.in_ok-place_missing.ensures.waking begun cost called past links)

pub returns-clause-shifts : goal.returns-clause-shifts
returns-clause-shifts g c =
    let p = g.D.Domain.plain c.args.task.now.domain.now in
    let value_of = g.D.Domain.value_of in
    let program = as_program p c.args.task.now.program.now in
    let limit = c.args.task.now.limit in
    let old = state_of value_of p c.args.table.now.rows c.args.arcs.now in
    let mid = state_of value_of p c.place_missing.new.table.rows c.place_missing.new.arcs in
    let new = state_of value_of p c.meet_called.new.table.rows c.place_missing.new.arcs in
    subst (Shifts (as_domain p) program limit (λ pred. p.rank) old new) (sym c.of_rows.ensures)
    (adds_shift (as_domain p) program limit (λ pred. p.rank) old new
    (adds_then (as_domain p) limit old mid new c.in_ok-place_missing.ensures.adds c.in_ok-meet_called.ensures.adds) c.live-before.result c.live.result _
    (c.live-before.ensures ∙ sym (kept_lives _ value_of p c.args.table.now.rows))
    (c.live.ensures ∙ sym (kept_lives _ value_of p c.meet_called.new.table.rows))
    (is_less c.live-before.result c.live.result) (not_less c.live-before.result c.live.result))

pub returns-clause-extends : goal.returns-clause-extends
returns-clause-extends g c =
    let p = g.D.Domain.plain c.args.task.now.domain.now in
    let value_of = g.D.Domain.value_of in
    extends_then (as_domain p) (kept_rows value_of p c.args.table.now.rows) (kept_rows value_of p c.place_missing.new.table.rows)
    (kept_rows value_of p c.meet_called.new.table.rows) c.in_ok-place_missing.ensures.extends c.in_ok-meet_called.ensures.extends

pub returns-clause-queued : goal.returns-clause-queued
returns-clause-queued g c = λ q. c.in_ok-meet_called.ensures.queued (c.in_ok-place_missing.ensures.queued q)
