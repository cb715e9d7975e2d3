use Rattle.std.proofs.Common.{refl}
use Rattle.plai_depth.proofs.Lists.{any_more}
use Rattle.plai_depth.proofs.properties.all_any.Goals as goal

pub loop-preserved : goal.loop-preserved
loop-preserved c = any_more c.loop.counter _ _ _ refl c.loop.invariant c.in_ok-push.ensures.items
