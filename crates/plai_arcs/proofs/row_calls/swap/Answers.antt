use Rattle.std.proofs.Common.{◌<◌, [], length, ap, ◌∙◌, arith}
use Rattle.plai_arcs.specs.declared.row_calls.RowCalls.{RowCalls}
use Rattle.plai_arcs.specs.Links.{calls_in}
use Rattle.plai_arcs.specs.Places.{at}
use Rattle.plai_arcs.proofs.SwapLemmas.{at_swap, at_no_swap}
use Rattle.plai_arcs.proofs.row_calls.swap.Goals as goal

pub returns-then-last-rows : goal.returns-then-last-rows
returns-then-last-rows c r k =
    let inside : c.args.row < length c.args.rows.now = omega (arith, c.requires.less, c.if-last-rows.true) in
    ap (λ xs. at (λ (q : RowCalls). calls_in q.clauses.items k) [] xs r) c.swap.ensures.after
    ∙ at_swap (λ (q : RowCalls). calls_in q.clauses.items k) [] c.args.rows.now c.args.row c.args.last inside c.if-last-rows.true r

pub returns-else-last-rows : goal.returns-else-last-rows
returns-else-last-rows c r k = at_no_swap (λ (q : RowCalls). calls_in q.clauses.items k) [] c.args.rows.now c.args.row c.args.last c.requires.less
    c.if-last-rows.false (c.requires.none k) r
