use Rattle.std.proofs.Common.{max, ap, ◌∙◌}
use Rattle.plai_sld.proofs.Walked.{terms_on}
use Rattle.plai_sld.proofs.limits.limit_in.Goals as goal

pub loop-term-preserved : goal.loop-term-preserved
loop-term-preserved c =
    terms_on c.args.terms.now c.loop-term.term-index c.term-item.result c.loop-term.limit c.max-limit.result c.loop-term-test.true c.term-item.is
    c.loop-term.invariant
    (c.max-limit.ensures ∙ ap (max c.loop-term.limit) c.in_ok-limit_of.ensures)
