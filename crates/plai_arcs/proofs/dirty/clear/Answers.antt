use Rattle.plai_arcs.proofs.DirtyLemmas.{row_unmarked, past_unmarked}
use Rattle.plai_arcs.proofs.dirty.clear.Goals as goal

pub returns-then-row-rows : goal.returns-then-row-rows
returns-then-row-rows c = row_unmarked c.args.rows.now c.args.row c.args.clause c.clear.new.self _ c.if-row-rows.true c.clear.ensures

pub returns-else-row-rows : goal.returns-else-row-rows
returns-else-row-rows c = past_unmarked c.args.rows.now c.args.row c.args.clause c.if-row-rows.false
