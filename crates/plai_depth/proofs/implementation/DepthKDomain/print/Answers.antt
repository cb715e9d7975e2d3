use Rattle.plai_depth.proofs.Shapes.{small}
use Rattle.plai_depth.proofs.implementation.DepthKDomain.print.Goals as goal

pub print_abs-requires : goal.print_abs-requires
print_abs-requires c = small _ _ c.requires
