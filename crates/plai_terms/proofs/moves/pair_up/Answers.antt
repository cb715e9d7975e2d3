use Rattle.std.proofs.Common.{arith, add-one}
use Rattle.std.proofs.lemmas.Grind.{common_steps}
use Rattle.plai_terms.proofs.Pairs.{equations_more}
use Rattle.plai_terms.proofs.moves.pair_up.Goals as goal

pub loop-i-preserved : goal.loop-i-preserved
loop-i-preserved c =
    let more = equations_more c.args.left.now c.args.right.now c.loop-i.i c.index-left-i.result c.index-right-i.result c.loop-i-test.true c.requires in
    rw add-one (grind (arith, common_steps, more, c.in_ok-copy.ensures, c.in_ok-copy-2.ensures))
