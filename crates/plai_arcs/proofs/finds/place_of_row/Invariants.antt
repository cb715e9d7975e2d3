use Rattle.std.proofs.Common.{◌<◌, ◌-◌, nat_eq, drop, length}
use Rattle.std.specs.List.{count_by}
use Rattle.plai_arcs.proofs.finds.place_of_row.Given as goal

abbrev pub invariant-find : goal.invariant-find
invariant-find l = 0 < count_by (nat_eq l.row) (drop l.place l.rows)

abbrev pub decreases-find : goal.decreases-find
decreases-find l = length l.rows - l.place
