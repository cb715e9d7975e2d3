use Rattle.std.proofs.Common.{◌≤◌, ◌-◌, length}
use Rattle.plai_repair.proofs.Compared.{AreSame}
use Rattle.plai_repair.proofs.equal.same_checks.Given as goal

-- so many items are the same
abbrev pub invariant-loop-place : goal.invariant-loop-place
invariant-loop-place l = record {
  within : l.place ≤ length l.one;
  same : AreSame l.place l.one l.two;
}

abbrev pub decreases-loop-place : goal.decreases-loop-place
decreases-loop-place l = length l.one - l.place
