use Rattle.std.proofs.Common.{ap, ◌∙◌}
use Rattle.plai_terms.specs.Preorder.{referred}
use Rattle.plai_terms.proofs.Within.{walked_in, walked_all, below_is}
use Rattle.plai_terms.proofs.term.Term.has_variables_below.Goals as goal

pub loop-node-init : goal.loop-node-init
loop-node-init c =
    walked_in c.args.limit c.deref-node-items.result.now c.args.self.now (ap referred c.deref-node-items.ensures.value ∙ c.in_ok-nodes.ensures)

pub returns-clause-below : goal.returns-clause-below
returns-clause-below c e =
    below_is c.args.limit c.args.self.now
    (walked_all c.args.limit c.deref-node-items.result.now c.loop-node.node-index c.args.self.now c.loop-node-test.false c.loop-node.invariant)
