use Rattle.plai_factors.proofs.Cleared.{cleared_less, cleared_others}
use Rattle.plai_factors.proofs.cost.without_slot.Goals as goal

pub returns-clause-less : goal.returns-clause-less
returns-clause-less c = rw (c.from_bits.ensures, c.bits.ensures) (cleared_less c.args.slots c.args.slot c.requires.slot_fits c.requires.there)

pub returns-clause-others : goal.returns-clause-others
returns-clause-others c k lt apart = rw (c.from_bits.ensures, c.bits.ensures) (cleared_others c.args.slots c.args.slot k c.requires.slot_fits lt apart)
