use Rattle.std.proofs.Common.{cond, false, nat_eq, ap, ◌∙◌}
use Rattle.plai_arcs.specs.declared.dirty_row.DirtyRow.{DirtyRow}
use Rattle.plai_arcs.specs.Dirty.{dirty_at}
use Rattle.plai_arcs.specs.Flags.{flag_at}
use Rattle.plai_arcs.proofs.PlaceLemmas.{at_set}
use Rattle.plai_arcs.proofs.DirtyLemmas.{past_wiped}
use Rattle.plai_arcs.proofs.dirty.wipe.Goals as goal

pub returns-then-row-rows : goal.returns-then-row-rows
returns-then-row-rows c r k =
    at_set (λ (d : DirtyRow). flag_at d.flags.items k) false c.args.rows.now c.args.row r c.wipe.new.self c.if-row-rows.true
    ∙ ap (λ b. cond (nat_eq r c.args.row) b (dirty_at c.args.rows.now r k)) (c.wipe.ensures k)

pub returns-else-row-rows : goal.returns-else-row-rows
returns-else-row-rows c = past_wiped c.args.rows.now c.args.row c.if-row-rows.false
