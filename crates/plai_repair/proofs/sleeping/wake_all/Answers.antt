use Rattle.std.proofs.Common.{true, arith}
use Rattle.plai_table.specs.Rows.{with_live}
use Rattle.plai_repair.proofs.Slept.{changed_next, changed_end, next_within}
use Rattle.plai_repair.proofs.sleeping.wake_all.Goals as goal

pub wake-requires : goal.wake-requires
wake-requires g c =
    next_within (with_live true) c.args.table.now.rows c.loop-row.table.rows c.loop-row.row c.loop-row.invariant
    (omega (arith, c.loop-row-test.true, c.len-row-end.ensures.len))

pub loop-row-preserved : goal.loop-row-preserved
loop-row-preserved g c =
    changed_next (with_live true) c.args.table.now.rows c.loop-row.table.rows c.wake.new.self.rows c.loop-row.row c.wake.ensures.rows c.loop-row.invariant

pub returns : goal.returns
returns g c =
    changed_end (with_live true) c.args.table.now.rows c.loop-row.table.rows c.loop-row.row c.loop-row.invariant
    (omega (arith, c.loop-row-test.false, c.len-row-end.ensures.len))
