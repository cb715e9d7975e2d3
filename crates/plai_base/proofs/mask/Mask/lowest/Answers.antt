use Rattle.std.proofs.Common.{arith}
use Rattle.plai_base.proofs.Masks.{lowest_is}
use Rattle.plai_base.proofs.mask.Mask.lowest.Goals as goal

pub returns-else-self-eq0 : goal.returns-else-self-eq0
returns-else-self-eq0 c = rw (← c.self.view_is) (lowest_is c.self.inside.bits (omega arith) c.self.invariant)
