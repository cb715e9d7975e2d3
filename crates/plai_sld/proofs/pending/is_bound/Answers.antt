use Rattle.std.proofs.Common.{sym}
use Rattle.plai_sld.proofs.Pendings.{any_key}
use Rattle.plai_sld.proofs.pending.is_bound.Goals as goal

pub returns-then-variable-pair : goal.returns-then-variable-pair
returns-then-variable-pair c = sym (any_key c.args.pairs.now c.loop-pair.pair-index c.pair-item.result c.args.variable c.loop-pair-test.true c.pair-item.is
    c.if-variable-pair.true)
