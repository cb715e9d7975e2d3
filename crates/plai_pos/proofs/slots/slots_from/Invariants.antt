use Rattle.plai_pos.proofs.Masks.{IsRange}
use Rattle.plai_pos.proofs.slots.slots_from.Given as goal

abbrev pub invariant-loop-slot : goal.invariant-loop-slot
invariant-loop-slot l = IsRange l.slots l.first l.slot
