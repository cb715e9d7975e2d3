use Rattle.std.proofs.Common.{◌≡◌, false}
use Rattle.plai_arcs.specs.Links.{is_pair}
use Rattle.plai_arcs.specs.Places.{at}
use Rattle.plai_arcs.proofs.CountLemmas.{count_passes}
use Rattle.plai_arcs.proofs.finds.place_of_pair.Goals as goal

pub find-preserved : goal.find-preserved
find-preserved c =
    let no : at (is_pair c.args.pair.0 c.args.pair.1) false c.args.pairs.now c.find.place ≡ false = cc in
    count_passes (is_pair c.args.pair.0 c.args.pair.1) c.args.pairs.now c.find.place no c.find.invariant
