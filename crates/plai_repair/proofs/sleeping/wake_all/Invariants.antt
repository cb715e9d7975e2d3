use Rattle.std.proofs.Common.{◌≡◌, true}
use Rattle.plai_table.specs.Rows.{with_live}
use Rattle.plai_repair.proofs.Slept.{changed_to}
use Rattle.plai_repair.proofs.sleeping.wake_all.Given as goal

-- the rows so far are live
abbrev pub invariant-loop-row : goal.invariant-loop-row
invariant-loop-row g l = l.table.rows ≡ changed_to (with_live true) l.row l.initial.table.rows
