use Rattle.std.proofs.Common.{ℕ, heap_items}
use Rattle.plai_arcs.specs.Arcs.{is_dirty}
use Rattle.plai_eval.specs.Meaning.{as_domain}
use Rattle.plai_fix_laws.specs.WorkStates.{Extends}
use Rattle.plai_fix_laws.specs.Measures.{kept_room, Adds}
use Rattle.plai_fix_rows.specs.Tables.{kept_rows, state_of}
use Rattle.plai_fix_laws.specs.Queues.{IsQueued}
use Rattle.plai_fix_rows.specs.Solving.{listed, IsAtWaking}
use Rattle.plai_fix_rows.specs.Told.{Origin}
use Rattle.plai_fix_rows.proofs.meeting.meet_all.Given as goal

-- pairs so far are met
abbrev pub invariant-loop : goal.invariant-loop
invariant-loop g l =
    let p = g.D.Domain.plain l.task.domain.now in
    let value_of = g.D.Domain.value_of in
    let old = state_of value_of p l.initial.table.rows l.arcs in
    let now = state_of value_of p l.table.rows l.arcs in
    record {
      met : (begun : Origin) (cost : ℕ) → IsAtWaking p l.task.program.now l.task.limit begun (g.W.Work.entries l.initial.work) cost old
          (listed l.initial.pending.items) (is_dirty l.initial.unmet)
          → IsAtWaking p l.task.program.now l.task.limit begun (g.W.Work.entries l.work) cost now (listed l.pending.items) (is_dirty l.unmet);
      adds : Adds (as_domain p) l.task.limit old now;
      extends : Extends (as_domain p) (kept_rows value_of p l.initial.table.rows) (kept_rows value_of p l.table.rows);
      queued : IsQueued old (heap_items l.initial.queue) → IsQueued now (heap_items l.queue);
    }

-- the room for rows and first answers
abbrev pub decreases-loop : goal.decreases-loop
decreases-loop g l = kept_room (as_domain (g.D.Domain.plain l.task.domain.now)) l.task.limit
    (kept_rows g.D.Domain.value_of (g.D.Domain.plain l.task.domain.now) l.table.rows)
