use Rattle.std.proofs.Common.{ℕ, Bool, false, sym, ap, ◌∙◌}
use Rattle.plai_arcs.specs.declared.dirty_row.DirtyRow.{DirtyRow}
use Rattle.plai_arcs.specs.Flags.{flag_at}
use Rattle.plai_arcs.proofs.PlaceLemmas.{at_past}
use Rattle.plai_arcs.proofs.DirtyLemmas.{row_marks}
use Rattle.plai_arcs.proofs.dirty.is_marked.Goals as goal

pub returns-then-row-rows : goal.returns-then-row-rows
returns-then-row-rows c =
    c.is_marked.ensures
    ∙ ap (λ (m : ℕ → Bool). m c.args.clause) (sym (row_marks c.args.rows.now c.args.row c.index-rows-row.result c.if-row-rows.true c.index-rows-row.is))

pub returns-else-row-rows : goal.returns-else-row-rows
returns-else-row-rows c = sym (at_past (λ (d : DirtyRow). flag_at d.flags.items c.args.clause) false c.args.rows.now c.args.row c.if-row-rows.false)
