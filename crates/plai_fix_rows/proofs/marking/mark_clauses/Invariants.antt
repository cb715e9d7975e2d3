use Rattle.std.proofs.Common.{◌≡◌, ◌≤◌, ℕ, ◌-◌, ◌&&◌, ◌||◌, nat_eq}
use Rattle.plai_arcs.specs.Arcs.{is_dirty, is_call}
use Rattle.plai_fix_rows.specs.Marks.{is_number}
use Rattle.plai_fix_rows.proofs.marking.mark_clauses.Given as goal

-- the clauses so far are marked
abbrev pub invariant-loop-clause : goal.invariant-loop-clause
invariant-loop-clause l = record {
  within : l.clause ≤ l.last;
  marked : (r c : ℕ) → is_dirty l.arcs r c ≡ ((nat_eq r l.row && is_number l.clause c) || is_dirty l.initial.arcs r c);
  same : (r c q : ℕ) → is_call l.arcs r c q ≡ is_call l.initial.arcs r c q;
}

abbrev pub decreases-loop-clause : goal.decreases-loop-clause
decreases-loop-clause l = l.last - l.clause
