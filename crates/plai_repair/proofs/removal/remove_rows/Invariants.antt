use Rattle.std.proofs.Common.{◌≤◌, length}
use Rattle.plai_repair.specs.Removal.{Removes}
use Rattle.plai_repair.proofs.removal.remove_rows.Given as goal

-- the marked rows from this number on are removed
abbrev pub invariant-loop-row : goal.invariant-loop-row
invariant-loop-row g l = record {
  within : l.row ≤ length l.initial.table.rows;
  removes : Removes l.marks l.row l.initial.table.rows l.initial.arcs l.table.rows l.arcs;
}

abbrev pub decreases-loop-row : goal.decreases-loop-row
decreases-loop-row g l = l.row
