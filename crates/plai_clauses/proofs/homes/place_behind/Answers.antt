use Rattle.std.proofs.Common.{rules, of_calls}
use Rattle.std.proofs.lemmas.Fn.{always_returns_same}
use Rattle.plai_clauses.proofs.PlaceBehind.{is_up_to, parted, place_is}
use Rattle.plai_clauses.proofs.homes.place_behind.Goals as goal

pub returns-clause-place : goal.returns-clause-place
returns-clause-place g c =
    let home = g.T.Homed.home in
    let point = c.partition_point.ensures.partitioned (is_up_to home c.args.name.now) (always_returns_same _ _ _ (λ a r f k. search (rules, of_calls)))
    (parted home c.args.name.now c.args.items.now c.requires) in
    place_is home c.args.name.now c.args.items.now c.partition_point.result c.partition_point.ensures.bound point
