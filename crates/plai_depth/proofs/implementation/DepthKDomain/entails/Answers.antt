use Rattle.plai_depth.proofs.Shapes.{speaks}
use Rattle.plai_depth.proofs.implementation.DepthKDomain.entails.Goals as goal

pub entails-requires : goal.entails-requires
entails-requires c = speaks _ _ _ c.requires
