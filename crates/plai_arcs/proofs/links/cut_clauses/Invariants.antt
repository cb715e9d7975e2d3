use Rattle.std.proofs.Common.{◌≡◌, ℕ, ◌<◌, ◌≤◌, cond, nat_eq}
use Rattle.plai_arcs.specs.Links.{AreLinked, call_count}
use Rattle.plai_arcs.proofs.links.cut_clauses.Given as goal

abbrev pub invariant-clauses : goal.invariant-clauses
invariant-clauses l = record {
  linked : AreLinked l.calls l.callers;
  calls : (r c q : ℕ) → cond (nat_eq r l.row) 0 (call_count l.calls r c q) ≡ cond (nat_eq r l.row) 0 (call_count l.initial.calls r c q);
  gone : (c q : ℕ) → c < l.clause → call_count l.calls l.row c q ≡ 0;
  past : (c q : ℕ) → l.count ≤ c → call_count l.calls l.row c q ≡ 0;
}
