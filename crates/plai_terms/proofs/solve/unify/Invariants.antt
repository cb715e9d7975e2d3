use Rattle.std.proofs.Common.{reverse}
use Rattle.plai_terms.proofs.Loop.{IsUnderWay, steps_left}
use Rattle.plai_terms.proofs.solve.unify.Given as goal

abbrev pub invariant-loop-pair : goal.invariant-loop-pair
invariant-loop-pair l = IsUnderWay l.fn.left l.fn.right l.waiting.items l.bindings.items

abbrev pub decreases-loop-pair : goal.decreases-loop-pair
decreases-loop-pair l = steps_left (reverse l.waiting.items)
