use Rattle.std.proofs.Common.{[], sym, ◌∙◌}
use Rattle.plai_arcs.specs.declared.row_calls.Called.{Called}
use Rattle.plai_arcs.proofs.PlaceLemmas.{at_index, at_past}
use Rattle.plai_arcs.proofs.row_calls.clause_list.Goals as goal

pub returns-then-clause-clauses : goal.returns-then-clause-clauses
returns-then-clause-clauses c =
    c.as_slice.ensures ∙ sym (at_index (λ (v : Called). v.rows.items) [] c.args.clauses.now c.args.clause c.index-clauses-clause.result
    c.if-clause-clauses.true)

pub returns-else-clause-clauses : goal.returns-else-clause-clauses
returns-else-clause-clauses c = sym (at_past (λ (v : Called). v.rows.items) [] c.args.clauses.now c.args.clause c.if-clause-clauses.false)
