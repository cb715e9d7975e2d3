use Rattle.std.proofs.Common.{max, ap, ◌∙◌}
use Rattle.plai_sld.proofs.Walked.{bindings_on}
use Rattle.plai_sld.proofs.limits.past.Goals as goal

pub loop-binding-preserved : goal.loop-binding-preserved
loop-binding-preserved c =
    bindings_on c.args.number c.args.bindings.now c.loop-binding.binding-index c.binding-item.result c.loop-binding.limit c.max-limit.result
    c.loop-binding-test.true c.binding-item.is c.loop-binding.invariant
    (c.max-limit.ensures ∙ ap (max c.loop-binding.limit) c.in_ok-limit_of.ensures)
