use Rattle.std.proofs.Common.{take}
use Rattle.plai_bdd.specs.Assignment.{IsFree}
use Rattle.plai_factors.specs.Product.{together}
use Rattle.plai_factors.proofs.cost.is_unused.Given as goal

abbrev pub invariant-loop-factor : goal.invariant-loop-factor
invariant-loop-factor l = IsFree (together (take l.factor-index l.factors)) l.slot
