use Rattle.std.proofs.Common.{heap_items}
use Rattle.plai_eval.specs.Meaning.{as_domain}
use Rattle.plai_fix_rows.specs.Tables.{state_of}
use Rattle.plai_fix_rows.proofs.Queued.{popped_first, when_none}
use Rattle.plai_fix_rows.proofs.queue.next_pair.Goals as goal

pub loop-row-preserved : goal.loop-row-preserved
loop-row-preserved g c =
    let p = g.D.Domain.plain c.args.domain.now in
    popped_first (as_domain p) (state_of g.D.Domain.value_of p c.args.table.now.rows c.args.arcs.now) (heap_items c.loop-row.queue)
    (heap_items c.pop.new.self) c.pop.result c.in-Some.row.now c.loop-row.invariant
    c.in-Some.ensures.lookup
    c.pop.ensures.top c.pop.ensures.permutation (when_none _ _ c.pop.result c.pop.ensures.unchanged (λ h. h.0)) c.in_default-next_clause.ensures.none
