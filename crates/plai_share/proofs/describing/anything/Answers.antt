use Rattle.plai_share.proofs.Properties.{range_more}
use Rattle.plai_share.proofs.describing.anything.Goals as goal

pub loop-bits-preserved : goal.loop-bits-preserved
loop-bits-preserved c = range_more c.loop-bits.bits c.loop-bits.groups.items c.push.new.self.items c.from_bits.result c.loop-bits.auto.bits
    c.loop-bits.invariant c.from_bits.ensures c.in_ok-push.ensures.items
