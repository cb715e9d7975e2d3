use Rattle.std.proofs.Common.{heap_items, heap_len}
use Rattle.plai_fix_rows.specs.Tables.{state_of}
use Rattle.plai_fix_laws.specs.Queues.{IsQueued}
use Rattle.plai_fix_rows.proofs.queue.next_pair.Given as goal

-- each dirty pair's live row is still there
abbrev pub invariant-loop-row : goal.invariant-loop-row
invariant-loop-row g l = IsQueued (state_of g.D.Domain.value_of (g.D.Domain.plain l.domain) l.table.rows l.arcs) (heap_items l.queue)

abbrev pub decreases-loop-row : goal.decreases-loop-row
decreases-loop-row g l = heap_len l.queue
