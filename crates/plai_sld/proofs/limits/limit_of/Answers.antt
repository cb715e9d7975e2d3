use Rattle.std.proofs.Common.{max, ap, ◌∙◌}
use Rattle.std.proofs.lemmas.List.{take_all}
use Rattle.plai_terms.specs.Preorder.{referred}
use Rattle.plai_sld.proofs.Walked.{walked, walk_on, walk_ends}
use Rattle.plai_sld.proofs.limits.limit_of.Goals as goal

pub loop-node-preserved : goal.loop-node-preserved
loop-node-preserved c =
    walk_on c.as_slice-node-items.result.now c.loop-node.node-index c.node-item.result c.loop-node.limit c.max-limit.result c.loop-node-test.true
    c.node-item.is c.loop-node.invariant
    (c.max-limit.ensures ∙ ap (max c.loop-node.limit) c.own_limit.ensures)

pub returns : goal.returns
returns c =
    c.loop-node.invariant
    ∙ ap (λ ts. walked (referred ts)) (take_all c.loop-node.node-index c.as_slice-node-items.result.now c.loop-node-test.false
    ∙ c.as_slice-node-items.ensures.value)
    ∙ walk_ends _ c.args.term.now c.in_ok-nodes.ensures
