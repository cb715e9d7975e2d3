use Rattle.std.proofs.Common.{take}
use Rattle.plai_bdd.specs.Nodes.{IsFunction}
use Rattle.plai_factors.specs.Product.{together}
use Rattle.plai_factors.proofs.product.conjunction.Given as goal

abbrev pub invariant-loop-factor : goal.invariant-loop-factor
invariant-loop-factor l = IsFunction l.all (together (take l.factor-index l.factors))
