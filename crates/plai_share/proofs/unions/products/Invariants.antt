use Rattle.std.proofs.Common.{◌≡◌, take}
use Rattle.plai_share_laws.specs.Groups.{normal, bin}
use Rattle.plai_share.proofs.unions.products.Given as goal

abbrev pub invariant-loop-mask : goal.invariant-loop-mask
invariant-loop-mask l = normal l.masks.items ≡ normal (bin (take l.mask-index l.few) l.many)
