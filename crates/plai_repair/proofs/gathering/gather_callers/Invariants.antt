use Rattle.std.proofs.Common.{◌≤◌, ◌-◌, length}
use Rattle.plai_repair.specs.Gathering.{Gathers, IsRowOf}
use Rattle.plai_repair.proofs.gathering.gather_callers.Given as goal

-- the rows of the pairs so far are gathered
abbrev pub invariant-loop-place : goal.invariant-loop-place
invariant-loop-place l = record {
  within : l.place ≤ length l.pairs;
  gathers : Gathers (IsRowOf l.pairs l.place) l.initial.gathered.marks.items l.initial.gathered.rows.items l.gathered.marks.items l.gathered.rows.items;
}

abbrev pub decreases-loop-place : goal.decreases-loop-place
decreases-loop-place l = length l.pairs - l.place
