use Rattle.std.proofs.Common.{◌≡◌, ℕ, ◌+◌, cond, nat_eq, nat_lt}
use Rattle.plai_arcs.specs.Links.{call_count, caller_count}
use Rattle.plai_arcs.proofs.renames.rename_callers.Given as goal

abbrev pub invariant-clauses : goal.invariant-clauses
invariant-clauses l = (q r c : ℕ) → caller_count l.callers q r c + cond (nat_eq r l.last) (cond (nat_lt c l.clause) (call_count l.calls l.row c q) 0) 0
    ≡ caller_count l.initial.callers q r c + cond (nat_eq r l.row) (cond (nat_lt c l.clause) (call_count l.calls l.row c q) 0) 0
