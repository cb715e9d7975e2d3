use Rattle.std.proofs.Common.{◌≡◌, ◌&&◌, drop}
use Rattle.plai_bdd.specs.Assignment.{Assignment}
use Rattle.plai_bdd.specs.Slots.{conjunction}
use Rattle.plai_pos.specs.TermSlots.{allowed_all}
use Rattle.plai_pos.proofs.properties.describe.Given as goal

abbrev pub invariant-loop-property : goal.invariant-loop-property
invariant-loop-property l = (at : Assignment) → (conjunction l.slots at && allowed_all (drop l.property-index l.properties) at) ≡ allowed_all l.properties at
