use Rattle.plai_depth.proofs.Shapes.{speaks}
use Rattle.plai_depth.proofs.implementation.DepthKDomain.excludes.Goals as goal

pub excludes-requires : goal.excludes-requires
excludes-requires c = speaks _ _ _ c.requires
