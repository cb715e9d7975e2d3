use Rattle.std.proofs.Common.{◌≡◌, drop}
use Rattle.plai_share_laws.specs.Shares.{any_meets}
use Rattle.plai_share.proofs.filters.any_meets.Given as goal

abbrev pub invariant-loop-group : goal.invariant-loop-group
invariant-loop-group l = any_meets l.set l.groups ≡ any_meets l.set (drop l.group-index l.groups)
