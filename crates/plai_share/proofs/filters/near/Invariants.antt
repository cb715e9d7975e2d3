use Rattle.std.proofs.Common.{◌≡◌, take}
use Rattle.plai_share_laws.specs.Groups.{near}
use Rattle.plai_share.proofs.filters.near.Given as goal

abbrev pub invariant-loop-group : goal.invariant-loop-group
invariant-loop-group l = l.slots ≡ near l.set (take l.group-index l.groups)
