use Rattle.plai_sld.proofs.Pendings.{distinct_none}
use Rattle.plai_sld.proofs.pending.Pending.nothing.Goals as goal

pub new-requires-2 : goal.new-requires-2
new-requires-2 c = distinct_none c.new.result.items c.new.ensures.items
