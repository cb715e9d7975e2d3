use Rattle.plai_depth_laws.proofs.Order.{IsUnder-trans, IsUnder-antisym}
use Rattle.plai_depth_laws.proofs.Decided.{under_decided}
use Rattle.plai_depth_laws.proofs.Joins.{join_above, join_least}
use Rattle.plai_depth_laws.proofs.Meets.{meet_below, meet_greatest}
use Rattle.plai_depth_laws.proofs.skeletons_are_ordered.Goals as goal

pub returns : goal.returns
returns c = record {
  transitive = λ s t u p q. IsUnder-trans p q;
  antisymmetric = λ s t p q. IsUnder-antisym p q;
  decided = under_decided;
  join_above = join_above;
  join_least = λ s t u p q. join_least p q;
  meet_below = meet_below;
  meet_greatest = λ s t x p q. meet_greatest p q;
}
