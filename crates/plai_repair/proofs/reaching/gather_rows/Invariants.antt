use Rattle.std.proofs.Common.{◌≤◌, ◌-◌, length}
use Rattle.plai_repair.specs.Gathering.{Gathers, IsAmong}
use Rattle.plai_repair.proofs.reaching.gather_rows.Given as goal

-- the rows so far are gathered
abbrev pub invariant-loop-place : goal.invariant-loop-place
invariant-loop-place l = record {
  within : l.place ≤ length l.rows;
  gathers : Gathers (IsAmong l.rows l.place) l.initial.gathered.marks.items l.initial.gathered.rows.items l.gathered.marks.items l.gathered.rows.items;
}

abbrev pub decreases-loop-place : goal.decreases-loop-place
decreases-loop-place l = length l.rows - l.place
