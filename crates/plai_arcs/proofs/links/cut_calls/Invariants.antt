use Rattle.std.proofs.Common.{◌≡◌, ℕ, ◌≤◌, ◌&&◌, cond, nat_eq, length}
use Rattle.plai_arcs.specs.Links.{AreLinked, calls_at, call_count, call_room, caller_room}
use Rattle.plai_arcs.proofs.links.cut_calls.Given as goal

abbrev pub invariant-each : goal.invariant-each
invariant-each l = record {
  linked : AreLinked l.calls l.callers;
  calls : (r c q : ℕ) → cond (nat_eq r l.row && nat_eq c l.clause) 0 (call_count l.calls r c q)
      ≡ cond (nat_eq r l.row && nat_eq c l.clause) 0 (call_count l.initial.calls r c q);
  call_room : (r c : ℕ) → call_room l.initial.calls r c ≤ call_room l.calls r c;
  caller_room : (q : ℕ) → caller_room l.initial.callers q ≤ caller_room l.callers q;
}

abbrev pub decreases-each : goal.decreases-each
decreases-each l = length (calls_at l.calls l.row l.clause)
