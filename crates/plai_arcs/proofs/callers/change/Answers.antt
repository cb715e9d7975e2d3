use Rattle.std.proofs.Common.{ℕ, [], refl}
use Rattle.plai_arcs.specs.declared.callers.Callers.{Callers}
use Rattle.plai_arcs.specs.Changes.{changed, room_taken}
use Rattle.plai_arcs.specs.Links.{is_pair, callers_room}
use Rattle.plai_arcs.proofs.PlaceLemmas.{at_written}
use Rattle.plai_arcs.proofs.ChangeLemmas.{room_written, found_there, can_there, past_items, past_found, no_less_by}
use Rattle.plai_arcs.proofs.callers.change.Goals as goal

pub change-requires : goal.change-requires
change-requires c = can_there (λ (v : Callers). v.pairs.items) callers_room (λ n. n) (λ (p : ℕ × ℕ). is_pair p.0 p.1) c.args.change c.args.callers.now
    c.args.row _ c.if-row-callers.true c.requires

pub returns-then-row-callers-clause-items : goal.returns-then-row-callers-clause-items
returns-then-row-callers-clause-items c q =
    at_written (λ (v : Callers). v.pairs.items) [] c.args.callers.now c.args.row c.change.new.self _ (λ ys. changed c.args.change c.change.result ys)
    c.if-row-callers.true c.change.ensures.items q

pub returns-then-row-callers-clause-found : goal.returns-then-row-callers-clause-found
returns-then-row-callers-clause-found c =
    found_there (λ (v : Callers). v.pairs.items) (λ (p : ℕ × ℕ). is_pair p.0 p.1) c.args.change c.change.result c.args.callers.now c.args.row _
    c.if-row-callers.true c.change.ensures.found

pub returns-then-row-callers-clause-room : goal.returns-then-row-callers-clause-room
returns-then-row-callers-clause-room c q =
    room_written callers_room c.args.callers.now c.args.row c.change.new.self _ (room_taken c.args.change) c.if-row-callers.true c.change.ensures.room q

pub returns-else-row-callers-clause-items : goal.returns-else-row-callers-clause-items
returns-else-row-callers-clause-items c q =
    past_items (λ (v : Callers). v.pairs.items) callers_room (λ n. n) (λ (p : ℕ × ℕ). is_pair p.0 p.1) c.args.change c.args.callers.now c.args.row
    c.if-row-callers.false refl c.requires q

pub returns-else-row-callers-clause-found : goal.returns-else-row-callers-clause-found
returns-else-row-callers-clause-found c =
    past_found (λ (v : Callers). v.pairs.items) callers_room (λ n. n) (λ (p : ℕ × ℕ). is_pair p.0 p.1) c.args.change c.args.callers.now c.args.row
    c.if-row-callers.false refl c.requires

pub returns-else-row-callers-clause-room : goal.returns-else-row-callers-clause-room
returns-else-row-callers-clause-room c q = no_less_by _ _
