use Rattle.plai_share_laws.specs.Groups.{bin}
use Rattle.plai_share.proofs.AllUnions.{formed_same, bin_comm}
use Rattle.plai_share.proofs.unions.smaller_first.Goals as goal

pub returns-in_ok-set : goal.returns-in_ok-set
returns-in_ok-set c = formed_same (bin c.args.right.now c.args.left.now) (bin c.args.left.now c.args.right.now)
    (bin_comm c.args.right.now c.args.left.now) _ c.in_ok-set.ensures
