use Rattle.std.proofs.Common.{sym, ◌∙◌}
use Rattle.plai_builtins_tests.proofs.Below.{one_below, none_below}
use Rattle.plai_builtins_tests.proofs.meanings.are_below.Goals as goal

pub loop-term-preserved : goal.loop-term-preserved
loop-term-preserved c below =
    c.loop-term.invariant
    (one_below c.args.limit c.args.terms.now c.loop-term.term-index c.term-item.result c.loop-term-test.true c.term-item.is
    (c.in_ok-has_variables_below.ensures.below c.if-not-branch.false) below)

pub returns : goal.returns
returns c e = c.loop-term.invariant (none_below c.args.limit c.args.terms.now c.loop-term.term-index c.loop-term-test.false)
