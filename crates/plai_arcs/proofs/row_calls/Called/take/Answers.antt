use Rattle.std.proofs.Common.{◌≡◌, true, false, nat_eq, rules}
use Rattle.plai_arcs.specs.Places.{at}
use Rattle.plai_arcs.proofs.CountLemmas.{found_inside, row_is}
use Rattle.plai_arcs.proofs.row_calls.Called.take.Goals as goal

pub swap_remove-requires : goal.swap_remove-requires
swap_remove-requires c =
    let found : at (nat_eq c.args.row) false c.args.self.now.rows.items c.place_of_row-index.result ≡ true = cc in
    (search rules, found_inside nat_eq row_is c.args.row c.args.self.now.rows.items c.place_of_row-index.result found)
