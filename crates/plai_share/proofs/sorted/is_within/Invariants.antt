use Rattle.std.proofs.Common.{◌≡◌, drop}
use Rattle.plai_base.specs.Sets.{has, has_all}
use Rattle.plai_share.proofs.sorted.is_within.Given as goal

abbrev pub invariant-loop-mask : goal.invariant-loop-mask
invariant-loop-mask l = has_all l.masks (has l.set) ≡ has_all (drop l.mask-index l.masks) (has l.set)
