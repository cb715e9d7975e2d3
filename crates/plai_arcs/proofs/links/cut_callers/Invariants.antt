use Rattle.std.proofs.Common.{◌≡◌, ℕ, cond, nat_eq, length}
use Rattle.plai_arcs.specs.Links.{AreLinked, callers_at, call_count}
use Rattle.plai_arcs.proofs.links.cut_callers.Given as goal

abbrev pub invariant-each : goal.invariant-each
invariant-each l = record {
  linked : AreLinked l.calls l.callers;
  calls : (r c q : ℕ) → cond (nat_eq q l.row) 0 (call_count l.calls r c q) ≡ cond (nat_eq q l.row) 0 (call_count l.initial.calls r c q);
}

abbrev pub decreases-each : goal.decreases-each
decreases-each l = length (callers_at l.callers l.row)
