use Rattle.std.proofs.Common.{length, reverse}
use Rattle.plai_terms.specs.Preorder.{referred}
use Rattle.plai_terms.specs.Subst.{apply_of}
use Rattle.plai_terms.proofs.Preorder.{IsBack}
use Rattle.plai_terms.proofs.subst.Subst.apply.Given as goal

abbrev pub invariant-loop-node : goal.invariant-loop-node
invariant-loop-node l = IsBack (apply_of l.self) l.term (referred l.nodes.items) (reverse l.done.items)

abbrev pub decreases-loop-node : goal.decreases-loop-node
decreases-loop-node l = length l.nodes.items
