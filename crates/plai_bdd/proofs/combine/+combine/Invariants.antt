use Rattle.std.proofs.Common.{◌+◌, ◌*◌}
use Rattle.plai_bdd.proofs.combine.+combine.Given as goal

abbrev pub decreases-combine : goal.decreases-combine
decreases-combine l = 2 * (l.pair.left + l.pair.right) + 1

abbrev pub decreases-combine_new : goal.decreases-combine_new
decreases-combine_new l = 2 * (l.pair.left + l.pair.right)
