use Rattle.std.proofs.Common.{false, nat_eq, sym}
use Rattle.plai_arcs.proofs.PlaceLemmas.{at_index, at_past}
use Rattle.plai_arcs.proofs.finds.is_row_at.Goals as goal

pub returns-then-place-rows : goal.returns-then-place-rows
returns-then-place-rows c = sym (at_index (nat_eq c.args.row) false c.args.rows.now c.args.place 0 c.if-place-rows.true)

pub returns-else-place-rows : goal.returns-else-place-rows
returns-else-place-rows c = sym (at_past (nat_eq c.args.row) false c.args.rows.now c.args.place c.if-place-rows.false)
