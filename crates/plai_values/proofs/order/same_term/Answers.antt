use Rattle.plai_values.proofs.OrderLaws.{told_by_order}
use Rattle.plai_values.proofs.order.same_term.Goals as goal

pub returns : goal.returns
returns c = told_by_order c.args.left.now c.args.right.now c.in_ok-compare.field-0 c.is_eq.result c.in_ok-compare.ensures c.is_eq.ensures
