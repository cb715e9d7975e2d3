use Rattle.std.proofs.Common.{◌≡◌, drop}
use Rattle.std.specs.List.{list_all}
use Rattle.plai_terms.specs.Preorder.{referred}
use Rattle.plai_values.specs.Nodes.{is_no_variable}
use Rattle.plai_values.proofs.groundness.are_no_variables.Given as goal

abbrev pub invariant-loop-node : goal.invariant-loop-node
invariant-loop-node l = list_all is_no_variable (referred l.nodes) ≡ list_all is_no_variable (drop l.node-index (referred l.nodes))
