use Rattle.plai_factors.proofs.Products.{free_more}
use Rattle.plai_factors.proofs.cost.is_unused.Goals as goal

pub loop-factor-preserved : goal.loop-factor-preserved
loop-factor-preserved c =
    free_more c.args.slot c.loop-factor.factor-index c.args.factors.now c.factor-item.result c.loop-factor-test.true c.factor-item.is
    (c.depends_on.ensures c.if-depends_on.false) c.loop-factor.invariant
