use Rattle.std.proofs.Common.{◌∙◌}
use Rattle.plai_fix_rows.proofs.Marked.{pairs_more}
use Rattle.plai_fix_rows.proofs.marking.mark_pairs.Goals as goal

pub loop-row-preserved : goal.loop-row-preserved
loop-row-preserved c = record {
  marked = λ r k. pairs_more c.args.pairs.now c.loop-row.row-index (0, 0) r k _ _ _ c.loop-row-test.true (c.in_ok-mark_dirty.ensures.ok r k)
      (c.loop-row.invariant.marked r k);
  same = λ r k q. c.in_ok-mark_dirty.ensures.calls r k q ∙ c.loop-row.invariant.same r k q;
}
