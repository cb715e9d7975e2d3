use Rattle.std.proofs.Common.{rules}
use Rattle.plai_repair.proofs.Gathered.{none_marked}
use Rattle.plai_repair.proofs.gathering.none.Goals as goal

pub returns-clause-marked : goal.returns-clause-marked
returns-clause-marked c =
    none_marked c.args.size c.in_ok-marks.marks.items c.new.result.items c.new.ensures.items
    (c.in_ok-marks.ensures.items_if_clones_equal (λ y h. search (h, rules)))
