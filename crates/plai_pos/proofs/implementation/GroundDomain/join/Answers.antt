use Rattle.plai_pos.proofs.Shapes.{alike}
use Rattle.plai_pos.proofs.implementation.GroundDomain.join.Goals as goal

pub join-requires : goal.join-requires
join-requires g c = alike _ _ c.requires
