use Rattle.plai_bdd.proofs.Steps.{ok_then}
use Rattle.plai_pos.proofs.Refined.{agreeing_is}
use Rattle.plai_pos.proofs.refine.agreeing.Goals as goal

pub returns : goal.returns
returns c =
    ok_then _ _
    (λ b h. agreeing_is c.in_ok-first.first c.in_ok-second.second b c.args.left.now c.args.right.now c.in_ok-first.ensures c.in_ok-second.ensures h)
    c.iff.result c.iff.ensures
