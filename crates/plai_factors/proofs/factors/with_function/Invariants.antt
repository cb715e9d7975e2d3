use Rattle.std.proofs.Common.{◌&&◌, length}
use Rattle.plai_bdd.specs.Nodes.{holds}
use Rattle.plai_factors.specs.Product.{together}
use Rattle.plai_factors.proofs.Products.{IsMerging}
use Rattle.plai_factors.proofs.factors.with_function.Given as goal

abbrev pub invariant-loop-factor : goal.invariant-loop-factor
invariant-loop-factor l = IsMerging (λ at. together l.fn.factors.items at && holds l.fn.function at) l.factors.items l.kept.items l.new

abbrev pub decreases-loop-factor : goal.decreases-loop-factor
decreases-loop-factor l = length l.factors.items
