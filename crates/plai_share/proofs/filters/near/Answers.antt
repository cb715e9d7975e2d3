use Rattle.std.proofs.Common.{◌∙◌}
use Rattle.plai_share.proofs.Filtered.{near_more}
use Rattle.plai_share.proofs.filters.near.Goals as goal

pub loop-group-preserved : goal.loop-group-preserved
loop-group-preserved c = c.with_near-slots.ensures ∙ near_more c.args.set c.args.groups.now c.loop-group.group-index c.group-item.result c.loop-group.slots
    c.loop-group-test.true c.group-item.is c.loop-group.invariant
