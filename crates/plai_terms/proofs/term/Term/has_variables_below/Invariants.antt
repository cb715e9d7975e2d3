use Rattle.std.proofs.Common.{◌≡◌, drop}
use Rattle.plai_terms.specs.Preorder.{referred}
use Rattle.plai_terms.specs.Term.{has_variables_below}
use Rattle.plai_terms.proofs.Within.{all_within}
use Rattle.plai_terms.proofs.term.Term.has_variables_below.Given as goal

abbrev pub invariant-loop-node : goal.invariant-loop-node
invariant-loop-node l = all_within l.limit (referred (drop l.node-index l.node-items)) ≡ has_variables_below l.limit l.self
