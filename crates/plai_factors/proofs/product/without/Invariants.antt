use Rattle.std.proofs.Common.{length}
use Rattle.plai_factors.proofs.Products.{IsParting}
use Rattle.plai_factors.proofs.product.without.Given as goal

abbrev pub invariant-loop-factor : goal.invariant-loop-factor
invariant-loop-factor l = IsParting l.slot l.fn.factors.items l.factors.items l.rest.items l.joined

abbrev pub decreases-loop-factor : goal.decreases-loop-factor
decreases-loop-factor l = length l.factors.items
