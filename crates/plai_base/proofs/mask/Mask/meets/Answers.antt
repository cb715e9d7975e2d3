use Rattle.plai_base.proofs.Masks.{meets-Decides}
use Rattle.plai_base.proofs.mask.Mask.meets.Goals as goal

pub returns : goal.returns
returns c = rw (← c.self.view_is, ← c.other.view_is) (meets-Decides c.self.inside.bits c.other.inside.bits c.self.invariant)
