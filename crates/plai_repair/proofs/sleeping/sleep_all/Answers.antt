use Rattle.std.proofs.Common.{false, arith}
use Rattle.plai_table.specs.Rows.{with_live, with_entry}
use Rattle.plai_repair.specs.Opened.{slept}
use Rattle.plai_repair.proofs.Slept.{changed_next_twice, changed_end, next_within, still_within}
use Rattle.plai_repair.proofs.sleeping.sleep_all.Goals as goal

pub sleep-requires : goal.sleep-requires
sleep-requires g c =
    next_within slept c.args.table.now.rows c.loop-row.table.rows c.loop-row.row c.loop-row.invariant
    (omega (arith, c.loop-row-test.true, c.len-row-end.ensures.len))

pub set_entry-requires : goal.set_entry-requires
set_entry-requires g c =
    still_within (with_live false) c.loop-row.table.rows c.sleep.new.self.rows c.loop-row.row c.sleep.ensures.rows
    (next_within slept c.args.table.now.rows c.loop-row.table.rows c.loop-row.row c.loop-row.invariant
    (omega (arith, c.loop-row-test.true, c.len-row-end.ensures.len)))

pub loop-row-preserved : goal.loop-row-preserved
loop-row-preserved g c =
    changed_next_twice (with_live false) (with_entry false) c.args.table.now.rows c.loop-row.table.rows c.sleep.new.self.rows c.set_entry.new.self.rows
    c.loop-row.row c.set_entry.ensures.rows c.sleep.ensures.rows c.loop-row.invariant

pub returns : goal.returns
returns g c =
    changed_end slept c.args.table.now.rows c.loop-row.table.rows c.loop-row.row c.loop-row.invariant
    (omega (arith, c.loop-row-test.false, c.len-row-end.ensures.len))
