use Rattle.plai_pos.proofs.Shapes.{speaks}
use Rattle.plai_pos.proofs.implementation.GroundDomain.entails.Goals as goal

pub entails-requires : goal.entails-requires
entails-requires c = speaks _ _ c.requires
