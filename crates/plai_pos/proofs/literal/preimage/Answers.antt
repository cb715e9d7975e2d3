use Rattle.plai_bdd.proofs.Steps.{ok_then}
use Rattle.plai_pos.proofs.Preimages.{preimage_is}
use Rattle.plai_pos.proofs.literal.preimage.Goals as goal

pub returns : goal.returns
returns c =
    ok_then _ _ (λ b is. preimage_is c.args.end c.args.sets.now c.requires.below c.args.function.now c.requires.function b is)
    c.replaced.result c.replaced.ensures
