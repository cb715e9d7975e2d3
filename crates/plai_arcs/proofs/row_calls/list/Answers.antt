use Rattle.std.proofs.Common.{◌≡◌, [], slice_index_or, sym}
use Rattle.plai_arcs.specs.declared.row_calls.RowCalls.{RowCalls}
use Rattle.plai_arcs.specs.Links.{calls_in, calls_at}
use Rattle.plai_arcs.proofs.PlaceLemmas.{at_index, at_past}
use Rattle.plai_arcs.proofs.row_calls.list.Goals as goal

pub returns-then-row-rows : goal.returns-then-row-rows
returns-then-row-rows c =
    let there : calls_at c.args.rows.now c.args.row c.args.clause ≡ calls_in (slice_index_or c.args.rows.now c.args.row c.index-rows-row.result).clauses.items
    c.args.clause =
    at_index (λ (q : RowCalls). calls_in q.clauses.items c.args.clause) [] c.args.rows.now c.args.row c.index-rows-row.result c.if-row-rows.true in
    cc

pub returns-else-row-rows : goal.returns-else-row-rows
returns-else-row-rows c = sym (at_past (λ (q : RowCalls). calls_in q.clauses.items c.args.clause) [] c.args.rows.now c.args.row c.if-row-rows.false)
