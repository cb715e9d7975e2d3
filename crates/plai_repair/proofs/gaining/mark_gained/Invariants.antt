use Rattle.std.proofs.Common.{◌≡◌, ℕ, ◌||◌}
use Rattle.plai_arcs.specs.Arcs.{is_dirty, is_call}
use Rattle.plai_repair.proofs.Gains.{gained_below}
use Rattle.plai_repair.proofs.gaining.mark_gained.Given as goal

-- the clauses that the rows so far gained are marked
abbrev pub invariant-loop-row : goal.invariant-loop-row
invariant-loop-row g l = record {
  marked : (r c : ℕ) → is_dirty l.arcs r c ≡ (gained_below l.before l.after l.table.rows l.row r c || is_dirty l.initial.arcs r c);
  same : (r c q : ℕ) → is_call l.arcs r c q ≡ is_call l.initial.arcs r c q;
}
