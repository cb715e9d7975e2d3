use Rattle.std.proofs.Common.{◌≡◌, ℕ, ◌≤◌, ◌+◌, ◌-◌, vec_len}
use Rattle.plai_arcs.specs.declared.row_calls.RowCalls.{RowCalls}
use Rattle.plai_arcs.specs.Places.{at}
use Rattle.plai_arcs.specs.Links.{calls_at, clause_room}
use Rattle.plai_arcs.proofs.row_calls.make_room.Given as goal

abbrev pub invariant-grow : goal.invariant-grow
invariant-grow l = record {
  same : (r c : ℕ) → calls_at l.rows.items r c ≡ calls_at l.initial.rows.items r c;
  more : (r c : ℕ) → at (λ (q : RowCalls). clause_room q.clauses.items c) 0 l.initial.rows.items r
      ≤ at (λ (q : RowCalls). clause_room q.clauses.items c) 0 l.rows.items r;
}

abbrev pub decreases-grow : goal.decreases-grow
decreases-grow l = l.row + 1 - vec_len l.rows
