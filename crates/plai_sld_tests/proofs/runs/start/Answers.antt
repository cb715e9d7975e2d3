use Rattle.plai_sld_tests.proofs.Below.{one_is_below}
use Rattle.plai_sld_tests.proofs.runs.start.Goals as goal

pub start-requires-clause-below : goal.start-requires-clause-below
start-requires-clause-below c = one_is_below 2147483647 c.in_ok-argument.argument c.from_ref.result.now c.from_ref.ensures.value
    (c.in_ok-has_variables_below.ensures.below c.if-not-branch.false)
