use Rattle.std.proofs.Common.{arith}
use Rattle.plai_repair.proofs.Lists.{loses_none, loses_more, loses_all}
use Rattle.plai_repair.proofs.gathering.gather_lost.Goals as goal

pub loop-row-init : goal.loop-row-init
loop-row-init g c = loses_none c.args.before.now c.args.after.now c.args.table.now.rows c.requires.marked

pub loop-row-preserved : goal.loop-row-preserved
loop-row-preserved g c =
    loses_more c.args.before.now c.args.after.now c.args.table.now.rows c.loop-row.row c.loop-row.invariant c.in_ok-gather_where_lost.ensures

pub returns : goal.returns
returns g c =
    loses_all c.args.before.now c.args.after.now c.args.table.now.rows c.loop-row.row
    (omega (arith, c.loop-row-test.false, c.len-row-end.ensures.len)) c.loop-row.invariant
