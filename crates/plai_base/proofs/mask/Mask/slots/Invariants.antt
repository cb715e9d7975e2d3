use Rattle.std.proofs.Common.{◌≡◌}
use Rattle.plai_base.specs.Mask.{slots_below}
use Rattle.plai_base.proofs.mask.Mask.slots.Given as goal

abbrev pub invariant-loop-slot : goal.invariant-loop-slot
invariant-loop-slot l = l.slots.items ≡ slots_below l.self l.slot
