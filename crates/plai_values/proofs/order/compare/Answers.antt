use Rattle.std.proofs.Common.{ap, ◌∙◌}
use Rattle.std.specs.Cmp.Lexicographic.{slice_cmp}
use Rattle.plai_terms.specs.Preorder.{preorder, referred}
use Rattle.plai_values.specs.Nodes.{node_order}
use Rattle.plai_values.proofs.TermOrders.{order_by_subterms}
use Rattle.plai_values.proofs.order.compare.Goals as goal

pub returns : goal.returns
returns c =
    c.nodes_order.ensures
    ∙ ap (λ xs. slice_cmp node_order xs (referred c.deref-2.result.now)) (ap referred c.deref.ensures.value ∙ c.in_ok-nodes.ensures)
    ∙ ap (slice_cmp node_order (preorder c.args.left.now)) (ap referred c.deref-2.ensures.value ∙ c.in_ok-others.ensures)
    ∙ order_by_subterms c.args.left.now c.args.right.now
