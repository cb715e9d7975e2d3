use Rattle.std.proofs.Common.{◌≤◌, ◌-◌, length}
use Rattle.plai_repair.proofs.Compared.{AreSame}
use Rattle.plai_repair.proofs.comparing.lost_clauses.Given as goal

-- so many items are the same
abbrev pub invariant-loop-place : goal.invariant-loop-place
invariant-loop-place l = record {
  within : l.place ≤ length l.old;
  same : AreSame l.place l.old l.new;
}

abbrev pub decreases-loop-place : goal.decreases-loop-place
decreases-loop-place l = length l.old - l.place
