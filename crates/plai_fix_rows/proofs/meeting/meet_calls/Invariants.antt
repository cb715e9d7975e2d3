use Rattle.std.proofs.Common.{◌≡◌, ℕ, Bool, nat_eq, take, heap_items}
use Rattle.std.specs.List.{list_any}
use Rattle.plai_eval.specs.Meaning.{as_domain}
use Rattle.plai_fix_laws.specs.WorkStates.{Extends, with_pair, kept_live}
use Rattle.plai_fix_rows.specs.Tables.{kept_rows, state_of}
use Rattle.plai_fix_laws.specs.Queues.{IsQueued}
use Rattle.plai_fix_rows.specs.Solving.{listed, IsAtWaking, IsMeeting}
use Rattle.plai_fix_rows.specs.Told.{Origin}
use Rattle.plai_fix_laws.specs.Measures.{Adds}
use Rattle.plai_fix_rows.proofs.meeting.meet_calls.Given as goal

-- the calls so far are roused
abbrev pub invariant-loop-call : goal.invariant-loop-call
invariant-loop-call g l =
    let p = g.D.Domain.plain l.task.domain.now in
    let value_of = g.D.Domain.value_of in
    let program = l.task.program.now in
    let limit = l.task.limit in
    let old = state_of value_of p l.fn.table.rows l.arcs in
    let now = state_of value_of p l.table.rows l.arcs in
    record {
      meeting : (begun : Origin) (cost : ℕ) (unmet : ℕ → ℕ → Bool) → IsAtWaking p program limit begun (g.W.Work.entries l.fn.work) cost old
          (with_pair l.row l.number (listed l.fn.pending.items)) unmet
          → IsMeeting p program limit begun (g.W.Work.entries l.work) cost now (listed l.pending.items) unmet l.row l.number
          (λ j. list_any (nat_eq j) (take l.call-index l.calls)) l.full;
      adds : Adds (as_domain p) limit old now;
      extends : Extends (as_domain p) (kept_rows value_of p l.fn.table.rows) (kept_rows value_of p l.table.rows);
      unmoved : kept_live (as_domain p) (kept_rows value_of p l.table.rows) ≡ kept_live (as_domain p) (kept_rows value_of p l.fn.table.rows)
          → l.pending.items ≡ l.fn.pending.items;
      queued : IsQueued old (heap_items l.fn.queue) → IsQueued now (heap_items l.queue);
    }
