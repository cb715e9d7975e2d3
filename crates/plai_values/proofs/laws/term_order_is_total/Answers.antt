use Rattle.plai_values.proofs.OrderLaws.{ties_equal_terms, term_order_total}
use Rattle.plai_values.proofs.laws.term_order_is_total.Goals as goal

pub returns : goal.returns
returns c = record { equal = ties_equal_terms; opposite = term_order_total.antisymm; transitive = term_order_total.trans }
