use Rattle.std.proofs.Common.{rules, ◌∙◌}
use Rattle.plai_values.proofs.integer.times_power_of_two.Goals as goal
use Rattle.plai_values.proofs.Powers.{first_not, both}

pub returns-in_err-checked_mul : goal.returns-in_err-checked_mul
returns-in_err-checked_mul c = c.from_residual.ensures
    ∙ first_not c.args.value c.args.count c.ranges.value c.pow.result c.pow.result c.pow.ensures (search rules) c.in_err-checked_mul.ensures

pub returns : goal.returns
returns c =
    both c.args.value c.args.count c.ranges.value c.pow.result c.pow-2.result c.pow.ensures (search rules)
    c.in_ok-checked_mul.field-0 (search rules) c.in_ok-checked_mul.ensures.1 c.pow-2.ensures (search rules) c.checked_mul-2.result c.checked_mul-2.ensures
