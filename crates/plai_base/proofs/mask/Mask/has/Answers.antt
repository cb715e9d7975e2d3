use Rattle.plai_base.proofs.Masks.{no_slot_above}
use Rattle.plai_base.proofs.mask.Mask.has.Goals as goal

pub returns-else-slot-lt64 : goal.returns-else-slot-lt64
returns-else-slot-lt64 c = rw (← c.self.view_is) (no_slot_above c.self.inside.bits c.args.slot c.self.invariant c.if-slot-lt64.false)
