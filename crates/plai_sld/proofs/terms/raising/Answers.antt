use Rattle.std.proofs.Common.{refl}
use Rattle.plai_sld.proofs.Renaming.{raising_push, raising_distinct}
use Rattle.plai_sld.proofs.terms.raising.Goals as goal

pub loop-variable-preserved : goal.loop-variable-preserved
loop-variable-preserved c =
    raising_push c.args.number c.loop-variable.variable _ c.loop-variable.pairs.items c.push.new.self.items refl c.loop-variable.invariant
    c.in_ok-push.ensures.items

pub new-requires : goal.new-requires
new-requires c = raising_distinct c.args.number _ c.loop-variable.pairs.items c.loop-variable.invariant
