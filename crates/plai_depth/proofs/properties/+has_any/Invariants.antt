use Rattle.std.proofs.Common.{◌≡◌, drop, map}
use Rattle.std.specs.List.{list_any}
use Rattle.plai_depth_laws.specs.Operations.{has_any}
use Rattle.plai_depth.proofs.properties.+has_any.Given as goal

abbrev pub decreases-has_any : goal.decreases-has_any
decreases-has_any l = goal.size-has_any l

abbrev pub invariant-loop-arg : goal.invariant-loop-arg
invariant-loop-arg l = list_any (λ b. b) (map has_any (drop l.arg-index l.arg-items)) ≡ has_any l.skeleton
