use Rattle.plai_pos.specs.TermSlots.{AreSlotsOf}
use Rattle.plai_pos.proofs.slots.slots_of.Given as goal

abbrev pub invariant-loop-term : goal.invariant-loop-term
invariant-loop-term l = AreSlotsOf l.variables l.term-index l.terms l.sets.items
