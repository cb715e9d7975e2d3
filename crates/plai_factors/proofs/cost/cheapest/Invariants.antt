use Rattle.std.proofs.Common.{◌<◌, IsTrue}
use Rattle.plai_base.specs.Mask.{has_slot}
use Rattle.plai_factors.proofs.Cleared.{IsWithin}
use Rattle.plai_factors.proofs.cost.cheapest.Given as goal

abbrev pub invariant-loop-slot : goal.invariant-loop-slot
invariant-loop-slot l = record { below : l.best < 64; there : IsTrue (has_slot l.fn.slots l.best); within : IsWithin l.rest l.fn.slots }

abbrev pub decreases-loop-slot : goal.decreases-loop-slot
decreases-loop-slot l = l.rest
