use Rattle.std.proofs.Common.{◌≡◌, take, Some}
use Rattle.std.specs.Prelude.{flat_map}
use Rattle.plai_clauses.specs.ClauseOf.{goals_of}
use Rattle.plai_sources.specs.Shapes.{each}
use Rattle.plai_sources.specs.Properties.{property_of}
use Rattle.plai_sources.specs.Answering.{behind}
use Rattle.plai_sources.proofs.properties.+push_properties.Given as goal

abbrev pub invariant-loop-part : goal.invariant-loop-part
invariant-loop-part l = behind l.initial.props.items (each (property_of l.variables) (flat_map goals_of (take l.part-index l.part-items))) ≡ Some l.props.items
