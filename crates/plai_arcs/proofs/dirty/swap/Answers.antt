use Rattle.std.proofs.Common.{◌<◌, false, length, ap, ◌∙◌, arith}
use Rattle.plai_arcs.specs.declared.dirty_row.DirtyRow.{DirtyRow}
use Rattle.plai_arcs.specs.Flags.{flag_at}
use Rattle.plai_arcs.specs.Places.{at}
use Rattle.plai_arcs.proofs.SwapLemmas.{at_swap, at_no_swap}
use Rattle.plai_arcs.proofs.dirty.swap.Goals as goal

pub returns-then-last-rows : goal.returns-then-last-rows
returns-then-last-rows c r k =
    let inside : c.args.row < length c.args.rows.now = omega (arith, c.requires.less, c.if-last-rows.true) in
    ap (λ xs. at (λ (d : DirtyRow). flag_at d.flags.items k) false xs r) c.swap.ensures.after
    ∙ at_swap (λ (d : DirtyRow). flag_at d.flags.items k) false c.args.rows.now c.args.row c.args.last inside c.if-last-rows.true r

pub returns-else-last-rows : goal.returns-else-last-rows
returns-else-last-rows c r k = at_no_swap (λ (d : DirtyRow). flag_at d.flags.items k) false c.args.rows.now c.args.row c.args.last c.requires.less
    c.if-last-rows.false (c.requires.none k) r
