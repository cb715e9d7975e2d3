use Rattle.std.proofs.Common.{[], sym, ◌∙◌}
use Rattle.plai_arcs.specs.declared.callers.Callers.{Callers}
use Rattle.plai_arcs.proofs.PlaceLemmas.{at_index, at_past}
use Rattle.plai_arcs.proofs.callers.list.Goals as goal

pub returns-then-row-callers : goal.returns-then-row-callers
returns-then-row-callers c =
    c.as_slice.ensures ∙ sym (at_index (λ (v : Callers). v.pairs.items) [] c.args.callers.now c.args.row c.index-callers-row.result c.if-row-callers.true)

pub returns-else-row-callers : goal.returns-else-row-callers
returns-else-row-callers c = sym (at_past (λ (v : Callers). v.pairs.items) [] c.args.callers.now c.args.row c.if-row-callers.false)
