use Rattle.plai_terms.proofs.RowOrders.{name_total, before_itself, one_is_before}
use Rattle.plai_terms.proofs.laws.rows_are_ordered.Goals as goal

pub returns : goal.returns
returns c = record {
  irreflexive = before_itself;
  transitive = name_total.trans;
  total = one_is_before;
}
