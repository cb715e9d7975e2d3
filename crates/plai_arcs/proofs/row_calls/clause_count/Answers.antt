use Rattle.std.proofs.Common.{◌≤◌, [], length, slice_index_or, ◌∙◌, arith}
use Rattle.plai_arcs.specs.declared.row_calls.RowCalls.{RowCalls}
use Rattle.plai_arcs.specs.declared.row_calls.Called.{Called}
use Rattle.plai_arcs.specs.Links.{calls_in}
use Rattle.plai_arcs.proofs.PlaceLemmas.{at_index, at_past}
use Rattle.plai_arcs.proofs.row_calls.clause_count.Goals as goal

pub returns-then-row-rows : goal.returns-then-row-rows
returns-then-row-rows c k h =
    let v = (slice_index_or c.args.rows.now c.args.row c.index-rows-row.result).clauses in
    let past : length v.items ≤ k = omega (arith, h, c.len.ensures, v.ok.0) in
    at_index (λ (q : RowCalls). calls_in q.clauses.items k) [] c.args.rows.now c.args.row c.index-rows-row.result c.if-row-rows.true
    ∙ at_past (λ (u : Called). u.rows.items) [] v.items k past

pub returns-else-row-rows : goal.returns-else-row-rows
returns-else-row-rows c k h = at_past (λ (q : RowCalls). calls_in q.clauses.items k) [] c.args.rows.now c.args.row c.if-row-rows.false
