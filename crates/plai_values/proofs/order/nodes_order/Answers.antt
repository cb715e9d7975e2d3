use Rattle.std.proofs.Common.{arith, sym, ◌∙◌}
use Rattle.plai_values.proofs.Subterms.{goes_on, stops, ends}
use Rattle.plai_values.proofs.order.nodes_order.Goals as goal

pub returns-then-is_ne : goal.returns-then-is_ne
returns-then-is_ne c =
    stops c.args.nodes.now c.args.others.now c.loop-i.i c.index-nodes-i.result c.index-others-i.result c.node_order-order.result _ (omega arith) (omega arith)
    c.index-nodes-i.is c.index-others-i.is c.node_order-order.ensures c.loop-i.invariant (sym c.is_ne.ensures ∙ c.if-is_ne.true)

pub loop-i-preserved : goal.loop-i-preserved
loop-i-preserved c =
    goes_on c.args.nodes.now c.args.others.now c.loop-i.i c.index-nodes-i.result c.index-others-i.result c.node_order-order.result _ (omega arith) (omega arith)
    c.index-nodes-i.is c.index-others-i.is c.node_order-order.ensures c.loop-i.invariant (sym c.is_ne.ensures ∙ c.if-is_ne.false)

pub returns : goal.returns
returns c = c.cmp.ensures ∙ sym (c.loop-i.invariant ∙ ends c.args.nodes.now c.args.others.now c.loop-i.i (omega arith))
