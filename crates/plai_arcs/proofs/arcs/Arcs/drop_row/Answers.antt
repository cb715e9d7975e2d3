use Rattle.std.proofs.Common.{◌≡◌, nat_eq, length, ap, ◌∙◌, arith}
use Rattle.std.specs.List.{list_any}
use Rattle.std.proofs.lemmas.List.{with_items_is}
use Rattle.plai_arcs.specs.Links.{calls_at}
use Rattle.plai_arcs.specs.Moves.{was, of_row}
use Rattle.plai_arcs.proofs.arcs.Arcs.drop_row.Goals as goal

pub returns-clause-calls : goal.returns-clause-calls
returns-clause-calls c r k q =
    let same_length : length c.drop_row-2.new.calls ≡ c.args.self.now.calls.len =
    first_of (cc, omega (arith, c.drop_row-2.auto.calls, c.deref_mut-2.ensures.len)) in
    ap (λ xs. list_any (nat_eq q) (calls_at xs r k)) (with_items_is c.args.self.now.calls c.drop_row-2.new.calls same_length)
    ∙ c.drop_row-2.ensures.calls r k q
    ∙ ap (λ xs. of_row (was c.args.row c.args.moved r) (λ b. of_row (was c.args.row c.args.moved q) (λ d. list_any (nat_eq d) (calls_at xs b k))))
    c.deref_mut-2.ensures.value
