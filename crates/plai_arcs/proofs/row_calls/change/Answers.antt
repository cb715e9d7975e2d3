use Rattle.std.proofs.Common.{◌-◌, nat_eq, refl}
use Rattle.plai_arcs.specs.declared.row_calls.RowCalls.{RowCalls}
use Rattle.plai_arcs.specs.Changes.{changed, room_taken}
use Rattle.plai_arcs.specs.Links.{calls_in, clause_room}
use Rattle.plai_arcs.proofs.ChangeLemmas.{calls_written, call_room_written, found_there, can_there, calls_past, past_found, no_less_by}
use Rattle.plai_arcs.proofs.row_calls.change.Goals as goal

pub change_clause-requires : goal.change_clause-requires
change_clause-requires c =
    can_there (λ (q : RowCalls). calls_in q.clauses.items c.args.clause) (λ (q : RowCalls). clause_room q.clauses.items c.args.clause) (λ n. n - 1) nat_eq
    c.args.change c.args.rows.now c.args.row _ c.if-row-rows.true c.requires

pub returns-then-row-rows-clause-items : goal.returns-then-row-rows-clause-items
returns-then-row-rows-clause-items c r k =
    calls_written c.args.rows.now c.args.row c.args.clause _ _ (λ ys. changed c.args.change c.change_clause.result ys) c.if-row-rows.true
    c.change_clause.ensures.items r k

pub returns-then-row-rows-clause-found : goal.returns-then-row-rows-clause-found
returns-then-row-rows-clause-found c =
    found_there (λ (q : RowCalls). calls_in q.clauses.items c.args.clause) nat_eq c.args.change c.change_clause.result c.args.rows.now c.args.row _
    c.if-row-rows.true c.change_clause.ensures.found

pub returns-then-row-rows-clause-room : goal.returns-then-row-rows-clause-room
returns-then-row-rows-clause-room c r k =
    call_room_written c.args.rows.now c.args.row c.args.clause _ _ (room_taken c.args.change) c.if-row-rows.true c.change_clause.ensures.room r k

pub returns-else-row-rows-clause-items : goal.returns-else-row-rows-clause-items
returns-else-row-rows-clause-items c r k = calls_past c.args.change c.args.rows.now c.args.row c.args.clause c.if-row-rows.false c.requires r k

pub returns-else-row-rows-clause-found : goal.returns-else-row-rows-clause-found
returns-else-row-rows-clause-found c =
    past_found (λ (q : RowCalls). calls_in q.clauses.items c.args.clause) (λ (q : RowCalls). clause_room q.clauses.items c.args.clause) (λ n. n - 1) nat_eq
    c.args.change c.args.rows.now c.args.row c.if-row-rows.false refl c.requires

pub returns-else-row-rows-clause-room : goal.returns-else-row-rows-clause-room
returns-else-row-rows-clause-room c r k = no_less_by _ _
