use Rattle.std.proofs.Common.{heap_items, sym, ◌∙◌}
use Rattle.plai_arcs.specs.Arcs.{is_dirty}
use Rattle.plai_eval.specs.Meaning.{as_domain}
use Rattle.plai_fix_rows.specs.Tables.{state_of}
use Rattle.plai_fix_rows.proofs.Parts.{ok_any}
use Rattle.plai_fix_rows.proofs.Queued.{queued_row, marked_else}
use Rattle.plai_fix_rows.proofs.placing.begin_row.Goals as goal

pub returns-clause-queued : goal.returns-clause-queued
returns-clause-queued g c =
    let p = g.D.Domain.plain c.args.task.now.domain.now in
    let value_of = g.D.Domain.value_of in
    let rows = c.args.table.now.rows in
    λ queued.
    ok_any _ c.note_made.result
    (queued_row (as_domain p) (state_of value_of p rows c.args.arcs.now) (state_of value_of p rows c.mark_clauses.new.arcs) c.args.row
    (heap_items c.args.queue.now) (heap_items c.push_row.new.queue) queued
    (λ n m other live e. (live, marked_else n c.args.row _ (is_dirty c.args.arcs.now n m) other (sym (c.in_ok-mark_clauses.ensures.dirty n m) ∙ e)))
    c.in_ok-push_row.ensures.row c.in_ok-push_row.ensures.others)
