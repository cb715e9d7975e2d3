use Rattle.std.proofs.Common.{◌≡◌, ◌≤◌, ◌<◌, ◌-◌, ℕ, false, not, length, get_or}
use Rattle.plai_repair.proofs.reaching.turn.Given as goal

-- the marks so far are turned
abbrev pub invariant-loop-place : goal.invariant-loop-place
invariant-loop-place l = record {
  within : l.place ≤ length l.initial.marks.items;
  long : length l.marks.items ≡ length l.initial.marks.items;
  turned : (n : ℕ) → n < l.place → get_or l.marks.items n false ≡ not (get_or l.initial.marks.items n false);
  others : (n : ℕ) → l.place ≤ n → get_or l.marks.items n false ≡ get_or l.initial.marks.items n false;
}

abbrev pub decreases-loop-place : goal.decreases-loop-place
decreases-loop-place l = length l.initial.marks.items - l.place
