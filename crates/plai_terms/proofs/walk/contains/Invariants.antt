use Rattle.std.proofs.Common.{◌≡◌, drop}
use Rattle.plai_terms.specs.Preorder.{referred}
use Rattle.plai_terms.specs.Term.{occurs}
use Rattle.plai_terms.proofs.Contains.{met}
use Rattle.plai_terms.proofs.walk.contains.Given as goal

abbrev pub invariant-loop-node : goal.invariant-loop-node
invariant-loop-node l = met l.variable (referred (drop l.node-index l.node-items)) ≡ occurs l.variable l.term
