use Rattle.std.proofs.Common.{◌≤◌, ◌-◌, length}
use Rattle.plai_repair.proofs.Stays.{StayBelow}
use Rattle.plai_repair.proofs.quiet.is_quiet.Given as goal

-- the predicates of so many rows have the clauses that they had
abbrev pub invariant-loop-row : goal.invariant-loop-row
invariant-loop-row g l = record {
  within : l.row ≤ length l.table.rows;
  stay : StayBelow l.before l.after l.table.rows l.row;
}

abbrev pub decreases-loop-row : goal.decreases-loop-row
decreases-loop-row g l = length l.table.rows - l.row
