use Rattle.std.proofs.Common.{ap, ◌∙◌}
use Rattle.plai_share_laws.specs.Groups.{normal}
use Rattle.plai_share.proofs.AllUnions.{bin_stops, bin_more}
use Rattle.plai_share.proofs.unions.products.Goals as goal

pub returns-in_default : goal.returns-in_default
returns-in_default c = bin_stops c.args.few.now c.args.many.now c.loop-mask.mask-index c.loop-mask.masks.items c.loop-mask.invariant c.in_default.ensures

pub loop-mask-preserved : goal.loop-mask-preserved
loop-mask-preserved c = ap normal c.in_ok-push_unions.ensures ∙ bin_more c.args.few.now c.args.many.now c.loop-mask.mask-index
    c.mask-item.result c.loop-mask-test.true c.mask-item.is c.in-Some.fewer.items (c.in-Some.ensures ∙ c.loop-mask.invariant)
