use Rattle.std.proofs.Common.{◌≡◌, ℕ, heap_items, vec_len}
use Rattle.plai_arcs.specs.Arcs.{is_dirty}
use Rattle.plai_eval.specs.Meaning.{as_domain}
use Rattle.plai_fix_laws.specs.WorkStates.{Extends, kept_live}
use Rattle.plai_fix_rows.specs.Tables.{kept_rows, state_of}
use Rattle.plai_fix_laws.specs.Queues.{IsQueued}
use Rattle.plai_fix_rows.specs.Solving.{listed, IsAtWaking}
use Rattle.plai_fix_rows.specs.Told.{Origin}
use Rattle.plai_fix_laws.specs.Measures.{Adds}
use Rattle.plai_fix_rows.proofs.meeting.meet_some.Given as goal

-- pairs so far are met, and no row is woken
abbrev pub invariant-loop-row : goal.invariant-loop-row
invariant-loop-row g l =
    let p = g.D.Domain.plain l.task.domain.now in
    let value_of = g.D.Domain.value_of in
    let old = state_of value_of p l.fn.table.rows l.arcs in
    let now = state_of value_of p l.table.rows l.arcs in
    record {
      met : (begun : Origin) (cost : ℕ) → IsAtWaking p l.task.program.now l.task.limit begun (g.W.Work.entries l.fn.work) cost old
          (listed l.fn.pending.items) (is_dirty l.fn.unmet)
          → IsAtWaking p l.task.program.now l.task.limit begun (g.W.Work.entries l.work) cost now (listed l.pending.items) (is_dirty l.unmet);
      same : kept_live (as_domain p) (kept_rows value_of p l.table.rows) ≡ kept_live (as_domain p) (kept_rows value_of p l.fn.table.rows);
      adds : Adds (as_domain p) l.task.limit old now;
      extends : Extends (as_domain p) (kept_rows value_of p l.fn.table.rows) (kept_rows value_of p l.table.rows);
      queued : IsQueued old (heap_items l.fn.queue) → IsQueued now (heap_items l.queue);
    }

abbrev pub decreases-loop-row : goal.decreases-loop-row
decreases-loop-row g l = vec_len l.pending
