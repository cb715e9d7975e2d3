use Rattle.std.proofs.Common.{◌≡◌, drop}
use Rattle.std.specs.Cmp.Lexicographic.{slice_cmp}
use Rattle.plai_terms.specs.Preorder.{referred}
use Rattle.plai_values.specs.Nodes.{node_order}
use Rattle.plai_values.proofs.order.nodes_order.Given as goal

abbrev pub invariant-loop-i : goal.invariant-loop-i
invariant-loop-i l =
    slice_cmp node_order (referred l.nodes) (referred l.others)
    ≡ slice_cmp node_order (drop l.i (referred l.nodes)) (drop l.i (referred l.others))
