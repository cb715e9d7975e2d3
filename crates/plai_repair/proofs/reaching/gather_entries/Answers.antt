use Rattle.std.proofs.Common.{arith}
use Rattle.plai_repair.proofs.Reaches.{entries_first, entries_more, entries_all}
use Rattle.plai_repair.proofs.reaching.gather_entries.Goals as goal

pub loop-row-init : goal.loop-row-init
loop-row-init g c = entries_first c.args.table.now.rows c.requires.marked

pub loop-row-preserved : goal.loop-row-preserved
loop-row-preserved g c = entries_more c.args.table.now.rows c.loop-row.row c.loop-row.invariant c.in_ok-gather_entry.ensures

pub returns : goal.returns
returns g c =
    entries_all c.args.table.now.rows c.loop-row.row (omega (arith, c.loop-row-test.false, c.len-row-end.ensures.len)) c.loop-row.invariant
