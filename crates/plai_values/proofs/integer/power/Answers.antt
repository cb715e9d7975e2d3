use Rattle.plai_values.proofs.integer.power.Goals as goal
use Rattle.plai_values.proofs.Powers.{power_answer}

pub returns-else-exponent-lt0 : goal.returns-else-exponent-lt0
returns-else-exponent-lt0 c = power_answer c.args.base c.args.exponent c.small_exponent.result c.checked_pow.result c.ranges.base c.ranges.exponent
    c.checked_pow.ensures c.small_exponent.ensures c.if-exponent-lt0.false
