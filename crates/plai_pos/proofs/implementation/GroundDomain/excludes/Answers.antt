use Rattle.plai_pos.proofs.Shapes.{speaks}
use Rattle.plai_pos.proofs.implementation.GroundDomain.excludes.Goals as goal

pub excludes-requires : goal.excludes-requires
excludes-requires c = speaks _ _ c.requires
