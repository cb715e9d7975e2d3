use Rattle.std.proofs.Common.{◌≡◌, ℕ, ◌≤◌, ◌+◌, ◌-◌, vec_len}
use Rattle.plai_arcs.specs.Links.{callers_at, caller_room}
use Rattle.plai_arcs.proofs.callers.make_one_room.Given as goal

abbrev pub invariant-grow : goal.invariant-grow
invariant-grow l = record {
  same : (q : ℕ) → callers_at l.callers.items q ≡ callers_at l.initial.callers.items q;
  more : (q : ℕ) → caller_room l.initial.callers.items q ≤ caller_room l.callers.items q;
}

abbrev pub decreases-grow : goal.decreases-grow
decreases-grow l = l.row + 1 - vec_len l.callers
