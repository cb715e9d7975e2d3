use Rattle.std.proofs.Common.{◌-◌, ◌+◌, ◌<◌, ◌≤◌, [], length, nat_eq, refl, sym, ap, ◌∙◌, subst, arith}
use Rattle.plai_arcs.specs.declared.row_calls.Called.{Called}
use Rattle.plai_arcs.specs.Changes.{changed, IsFound, CanChange, room_taken}
use Rattle.plai_arcs.specs.Links.{called_room}
use Rattle.plai_arcs.proofs.PlaceLemmas.{at_written}
use Rattle.plai_arcs.proofs.ChangeLemmas.{room_written, found_there, can_there, past_items, past_found, no_less_by}
use Rattle.plai_arcs.proofs.row_calls.change_clause.Goals as goal

pub change-requires : goal.change-requires
change-requires c =
    let inside : c.args.clause < length c.args.clauses.now.items = omega arith in
    subst (λ (v : Called). CanChange nat_eq c.args.change (called_room v - 1) v.rows.items) (sym c.index_mut.ensures.value)
    (can_there (λ (v : Called). v.rows.items) called_room (λ n. n - 1) nat_eq c.args.change c.args.clauses.now.items c.args.clause c.index_mut.result.now
    inside c.requires)

pub returns-then-clause-len-clause-items : goal.returns-then-clause-len-clause-items
returns-then-clause-len-clause-items c q =
    let inside : c.args.clause < length c.args.clauses.now.items = omega arith in
    at_written (λ (v : Called). v.rows.items) [] c.args.clauses.now.items c.args.clause c.change.new.self c.index_mut.result.now
    (λ ys. changed c.args.change c.change.result ys) inside
    (c.change.ensures.items ∙ ap (λ (v : Called). changed c.args.change c.change.result v.rows.items) c.index_mut.ensures.value) q

pub returns-then-clause-len-clause-found : goal.returns-then-clause-len-clause-found
returns-then-clause-len-clause-found c =
    let inside : c.args.clause < length c.args.clauses.now.items = omega arith in
    found_there (λ (v : Called). v.rows.items) nat_eq c.args.change c.change.result c.args.clauses.now.items c.args.clause c.index_mut.result.now inside
    (subst (λ (v : Called). IsFound nat_eq c.args.change c.change.result v.rows.items) c.index_mut.ensures.value c.change.ensures.found)

pub returns-then-clause-len-clause-room : goal.returns-then-clause-len-clause-room
returns-then-clause-len-clause-room c q =
    let inside : c.args.clause < length c.args.clauses.now.items = omega arith in
    room_written called_room c.args.clauses.now.items c.args.clause c.change.new.self c.index_mut.result.now (room_taken c.args.change) inside
    (subst (λ (v : Called). called_room v ≤ called_room c.change.new.self + room_taken c.args.change) c.index_mut.ensures.value c.change.ensures.room) q

pub returns-else-clause-len-clause-items : goal.returns-else-clause-len-clause-items
returns-else-clause-len-clause-items c q =
    let past : length c.args.clauses.now.items ≤ c.args.clause = omega arith in
    past_items (λ (v : Called). v.rows.items) called_room (λ n. n - 1) nat_eq c.args.change c.args.clauses.now.items c.args.clause past refl c.requires q

pub returns-else-clause-len-clause-found : goal.returns-else-clause-len-clause-found
returns-else-clause-len-clause-found c =
    let past : length c.args.clauses.now.items ≤ c.args.clause = omega arith in
    past_found (λ (v : Called). v.rows.items) called_room (λ n. n - 1) nat_eq c.args.change c.args.clauses.now.items c.args.clause past refl c.requires

pub returns-else-clause-len-clause-room : goal.returns-else-clause-len-clause-room
returns-else-clause-len-clause-room c q = no_less_by _ _
