use Rattle.plai_top.proofs.Outcomes.{one_outcome}
use Rattle.plai_top.proofs.top.outcome_is_one.Goals as goal

pub returns : goal.returns
returns c = one_outcome c.least_table_is_one.ensures
