-- Each clause is a theorem of proofs/.
use Rattle.plai_theory.proofs.Stages.{stage_le}
use Rattle.plai_theory.proofs.Tables.{stage_below_row, reach_below_row, closed_is_least}
use Rattle.plai_theory.proofs.Same.{least_unique, least_closed}
use Rattle.plai_theory.proofs.Snapshots.{least_is_limit}
use Rattle.plai_theory.proofs.stage_theorems.stage_laws.Goals as goal

pub returns : goal.returns
returns g c = record {
  stages_rise = λ p laws. stage_le _ p laws;
  closed_covers_stages = λ p laws. stage_below_row _ p laws;
  closed_covers_reach = λ p laws. reach_below_row _ p laws;
  closed_from_below_is_least = λ p laws rows closed. closed_is_least _ p laws rows closed _;
  is_one = λ p order. least_unique _ p _ order;
  is_closed = λ p laws order rows least. least_closed _ p laws _ order rows least.0 least.1;
  is_the_limit = λ p is_before test rows. least_is_limit _ is_before test p rows;
}
