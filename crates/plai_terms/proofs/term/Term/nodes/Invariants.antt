use Rattle.std.proofs.Common.{◌≡◌, ◌++◌, reverse, length, flat_map}
use Rattle.plai_terms.specs.Preorder.{preorder, referred}
use Rattle.plai_terms.proofs.term.Term.nodes.Given as goal

abbrev pub invariant-loop-term : goal.invariant-loop-term
invariant-loop-term l = referred l.nodes.items ++ flat_map preorder (reverse (referred l.waiting.items)) ≡ preorder l.self

abbrev pub decreases-loop-term : goal.decreases-loop-term
decreases-loop-term l = length (flat_map preorder (reverse (referred l.waiting.items)))
