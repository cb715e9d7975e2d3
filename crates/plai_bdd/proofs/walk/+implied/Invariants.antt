use Rattle.std.proofs.Common.{◌-◌}
use Rattle.plai_bdd.specs.Table.{first_slot_of}
use Rattle.plai_bdd.proofs.walk.+implied.Given as goal

-- slots grow along a walk, so calls nest at most 65 deep
abbrev pub decreases-implied : goal.decreases-implied
decreases-implied l = 65 - first_slot_of l.left.now l.right.now l.pair.left l.pair.right
