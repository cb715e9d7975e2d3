use Rattle.std.proofs.Common.{ap, ◌∙◌}
use Rattle.plai_terms.specs.Preorder.{referred}
use Rattle.plai_terms.proofs.Contains.{met_in}
use Rattle.plai_terms.proofs.walk.contains.Goals as goal

pub loop-node-init : goal.loop-node-init
loop-node-init c =
    met_in c.args.variable c.deref-node-items.result.now c.args.term.now (ap referred c.deref-node-items.ensures.value ∙ c.in_ok-nodes.ensures)
