use Rattle.std.proofs.Common.{◌≡◌, ℕ, true, false, rules}
use Rattle.plai_arcs.specs.Links.{is_pair}
use Rattle.plai_arcs.specs.Places.{at}
use Rattle.plai_arcs.proofs.CountLemmas.{found_inside, pair_is}
use Rattle.plai_arcs.proofs.callers.Callers.take.Goals as goal

pub swap_remove-requires : goal.swap_remove-requires
swap_remove-requires c =
    let found : at (is_pair c.args.pair.0 c.args.pair.1) false c.args.self.now.pairs.items c.place_of_pair-place.result ≡ true = cc in
    (search rules, found_inside (λ (p : ℕ × ℕ). is_pair p.0 p.1) pair_is c.args.pair c.args.self.now.pairs.items c.place_of_pair-place.result found)
