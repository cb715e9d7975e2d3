use Rattle.std.proofs.Common.{ℕ, ◌<◌, subst, length, vec_len, arith}
use Rattle.plai_arcs.specs.declared.dirty_row.DirtyRow.{DirtyRow}
use Rattle.plai_arcs.proofs.PlaceLemmas.{within, at_index}
use Rattle.plai_arcs.proofs.DirtyLemmas.{row_marked}
use Rattle.plai_arcs.proofs.dirty.mark.Goals as goal

pub returns-then-row-rows : goal.returns-then-row-rows
returns-then-row-rows c = row_marked c.args.rows.now c.args.row c.args.clause c.mark.new.self _ c.if-row-rows.true c.mark.ensures

pub returns-else-row-rows : goal.returns-else-row-rows
returns-else-row-rows c =
    let inside : c.args.row < length c.args.rows.now = within (λ (d : DirtyRow). vec_len d.flags) c.args.rows.now c.args.row c.args.clause c.requires in
    absurd (omega arith)

pub mark-requires : goal.mark-requires
mark-requires c =
    subst (λ (n : ℕ). c.args.clause < n)
    (at_index (λ (d : DirtyRow). vec_len d.flags) 0 c.args.rows.now c.args.row c.index-rows-row.result c.if-row-rows.true) c.requires
