use Rattle.std.proofs.Common.{◌<◌, ◌-◌, drop, length}
use Rattle.std.specs.List.{count_by}
use Rattle.plai_arcs.specs.Links.{is_pair}
use Rattle.plai_arcs.proofs.finds.place_of_pair.Given as goal

abbrev pub invariant-find : goal.invariant-find
invariant-find l = 0 < count_by (is_pair l.pair.0 l.pair.1) (drop l.place l.pairs)

abbrev pub decreases-find : goal.decreases-find
decreases-find l = length l.pairs - l.place
