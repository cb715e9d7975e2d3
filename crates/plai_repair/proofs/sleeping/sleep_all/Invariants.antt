use Rattle.std.proofs.Common.{◌≡◌}
use Rattle.plai_repair.specs.Opened.{slept}
use Rattle.plai_repair.proofs.Slept.{changed_to}
use Rattle.plai_repair.proofs.sleeping.sleep_all.Given as goal

-- the rows so far are dormant
abbrev pub invariant-loop-row : goal.invariant-loop-row
invariant-loop-row g l = l.table.rows ≡ changed_to slept l.row l.initial.table.rows
