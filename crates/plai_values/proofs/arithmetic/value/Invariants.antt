use Rattle.std.proofs.Common.{reverse, vec_len}
use Rattle.plai_terms.specs.Preorder.{referred}
use Rattle.plai_terms.proofs.Preorder.{IsBack}
use Rattle.plai_values.specs.Values.{value_of}
use Rattle.plai_values.proofs.arithmetic.value.Given as goal

abbrev pub invariant-loop-node : goal.invariant-loop-node
invariant-loop-node l = IsBack value_of l.term (referred l.nodes.items) (reverse l.values.items)

abbrev pub decreases-loop-node : goal.decreases-loop-node
decreases-loop-node l = vec_len l.nodes
