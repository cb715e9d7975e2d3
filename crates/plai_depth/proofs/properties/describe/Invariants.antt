use Rattle.std.proofs.Common.{◌≡◌, drop, length}
use Rattle.plai_depth_laws.specs.Operations.{describe_of}
use Rattle.plai_depth.proofs.Described.{with_properties}
use Rattle.plai_depth.proofs.properties.describe.Given as goal

abbrev pub invariant-loop-property : goal.invariant-loop-property
invariant-loop-property l =
    (length l.skeletons.items ≡ l.arity) × (with_properties (drop l.property-index l.properties) l.skeletons.items ≡ describe_of l.arity l.properties)
