use Rattle.plai_pos.proofs.Shapes.{alike, ordered_at}
use Rattle.plai_pos.proofs.implementation.GroundDomain.leq.Goals as goal

pub leq-requires : goal.leq-requires
leq-requires c = alike _ _ c.requires

pub returns : goal.returns
returns c = λ n h k. ordered_at _ _ _ c.leq.ensures n h k
