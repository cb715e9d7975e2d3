use Rattle.std.proofs.Common.{length, reverse}
use Rattle.plai_terms.specs.Preorder.{referred}
use Rattle.plai_terms.proofs.Preorder.{IsBack}
use Rattle.plai_terms.proofs.term.Term.copy.Given as goal

abbrev pub invariant-loop-node : goal.invariant-loop-node
invariant-loop-node l = IsBack (λ t. t) l.self (referred l.nodes.items) (reverse l.done.items)

abbrev pub decreases-loop-node : goal.decreases-loop-node
decreases-loop-node l = length l.nodes.items
