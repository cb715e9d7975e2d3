use Rattle.std.proofs.Common.{◌<◌, [], length, ap, ◌∙◌, arith}
use Rattle.plai_arcs.specs.declared.callers.Callers.{Callers}
use Rattle.plai_arcs.specs.Places.{at}
use Rattle.plai_arcs.proofs.SwapLemmas.{at_swap, at_no_swap}
use Rattle.plai_arcs.proofs.callers.swap.Goals as goal

pub returns-then-last-callers : goal.returns-then-last-callers
returns-then-last-callers c r =
    let inside : c.args.row < length c.args.callers.now = omega (arith, c.requires.less, c.if-last-callers.true) in
    ap (λ xs. at (λ (v : Callers). v.pairs.items) [] xs r) c.swap.ensures.after
    ∙ at_swap (λ (v : Callers). v.pairs.items) [] c.args.callers.now c.args.row c.args.last inside c.if-last-callers.true r

pub returns-else-last-callers : goal.returns-else-last-callers
returns-else-last-callers c r = at_no_swap (λ (v : Callers). v.pairs.items) [] c.args.callers.now c.args.row c.args.last c.requires.less
    c.if-last-callers.false c.requires.none r
