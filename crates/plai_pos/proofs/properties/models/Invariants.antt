use Rattle.std.proofs.Common.{◌≡◌}
use Rattle.plai_base.specs.Sets.{kept}
use Rattle.plai_bdd.specs.Nodes.{is_model}
use Rattle.plai_pos.proofs.properties.models.Given as goal

abbrev pub invariant-loop-bits : goal.invariant-loop-bits
invariant-loop-bits l = l.masks.items ≡ kept l.bits (is_model l.value.diagram)
