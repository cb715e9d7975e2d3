use Rattle.plai_sld.proofs.Pendings.{next_more, all_more}
use Rattle.plai_sld.proofs.pending.keep_all.Goals as goal

pub loop-pair-preserved : goal.loop-pair-preserved
loop-pair-preserved c = record {
  distinct = c.in_ok-keep.ensures.distinct;
  same =
      next_more c.args.limit c.args.all.now.items c.args.pairs.now c.loop-pair.all.items c.keep.new.all.items c.loop-pair.pair-index c.pair-item.result
      c.loop-pair-test.true c.pair-item.is c.loop-pair.invariant.same
      c.in_ok-keep.ensures.more;
}

pub returns-clause-bound : goal.returns-clause-bound
returns-clause-bound c = all_more c.args.limit c.args.all.now.items c.args.pairs.now c.loop-pair.all.items c.loop-pair.pair-index c.loop-pair-test.false
    c.loop-pair.invariant.same
