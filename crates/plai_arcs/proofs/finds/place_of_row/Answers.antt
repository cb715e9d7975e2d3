use Rattle.std.proofs.Common.{◌≡◌, false, nat_eq}
use Rattle.plai_arcs.specs.Places.{at}
use Rattle.plai_arcs.proofs.CountLemmas.{count_passes}
use Rattle.plai_arcs.proofs.finds.place_of_row.Goals as goal

pub find-preserved : goal.find-preserved
find-preserved c =
    let no : at (nat_eq c.args.row) false c.args.rows.now c.find.place ≡ false = cc in
    count_passes (nat_eq c.args.row) c.args.rows.now c.find.place no c.find.invariant
