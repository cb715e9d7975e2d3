use Rattle.std.proofs.Common.{◌≡◌, ℕ, ◌≤◌, ◌+◌, ◌-◌, vec_len}
use Rattle.plai_arcs.specs.Links.{calls_in, clause_room}
use Rattle.plai_arcs.proofs.row_calls.make_clause_room.Given as goal

abbrev pub invariant-grow : goal.invariant-grow
invariant-grow l = record {
  same : (c : ℕ) → calls_in l.clauses.items c ≡ calls_in l.initial.clauses.items c;
  more : (c : ℕ) → clause_room l.initial.clauses.items c ≤ clause_room l.clauses.items c;
}

abbrev pub decreases-grow : goal.decreases-grow
decreases-grow l = l.clause + 1 - vec_len l.clauses
