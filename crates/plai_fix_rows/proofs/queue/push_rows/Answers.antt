use Rattle.std.proofs.Common.{heap_items}
use Rattle.plai_fix_rows.proofs.Queued.{rows_more}
use Rattle.plai_fix_rows.proofs.queue.push_rows.Goals as goal

pub loop-row-preserved : goal.loop-row-preserved
loop-row-preserved c = record {
  rows = rows_more c.args.pairs.now c.loop-row.row-index (0, 0) (heap_items c.loop-row.queue) (heap_items c.push_row.new.queue) c.loop-row-test.true
      c.loop-row.invariant.rows c.in_ok-push_row.ensures.row c.in_ok-push_row.ensures.others;
  others = λ n h. c.in_ok-push_row.ensures.others n (c.loop-row.invariant.others n h);
}
