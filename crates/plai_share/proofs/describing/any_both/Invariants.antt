use Rattle.std.proofs.Common.{◌≡◌, drop}
use Rattle.plai_share_laws.specs.Properties.{any_both}
use Rattle.plai_share.proofs.describing.any_both.Given as goal

abbrev pub invariant-loop-group : goal.invariant-loop-group
invariant-loop-group l = any_both l.left l.right l.groups ≡ any_both l.left l.right (drop l.group-index l.groups)
