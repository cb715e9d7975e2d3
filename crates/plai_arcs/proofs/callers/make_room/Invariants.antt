use Rattle.std.proofs.Common.{◌≡◌, ℕ, ◌≤◌, ◌<◌, true, nat_eq, take}
use Rattle.std.specs.List.{list_any}
use Rattle.plai_arcs.specs.Links.{callers_at, caller_room}
use Rattle.plai_arcs.proofs.callers.make_room.Given as goal

abbrev pub invariant-each : goal.invariant-each
invariant-each l = record {
  same : (q : ℕ) → callers_at l.callers.items q ≡ callers_at l.initial.callers.items q;
  more : (q : ℕ) → caller_room l.initial.callers.items q ≤ caller_room l.callers.items q;
  room : (q : ℕ) → list_any (nat_eq q) (take l.row-index l.called) ≡ true → 0 < caller_room l.callers.items q;
}
