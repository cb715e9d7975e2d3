use Rattle.plai_factors.proofs.Products.{IsQuantifying}
use Rattle.plai_factors.proofs.product.and_exists.Given as goal

abbrev pub invariant-loop-slot : goal.invariant-loop-slot
invariant-loop-slot l = IsQuantifying l.fn.slots l.left l.fn.factors.items l.rest.items

abbrev pub decreases-loop-slot : goal.decreases-loop-slot
decreases-loop-slot l = l.left
