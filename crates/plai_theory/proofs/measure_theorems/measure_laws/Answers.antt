-- Each clause is a theorem of proofs/.
use Rattle.plai_theory.proofs.Measure.{made_lowers, woke_lowers, first_room, growth_lowers, growth_room, evaluated_lowers, evaluated_room, evaluated_ranks}
use Rattle.plai_theory.proofs.measure_theorems.measure_laws.Goals as goal

pub returns : goal.returns
returns g c = record {
  made_lowers = λ p laws. made_lowers _;
  woke_lowers = λ p laws rows own x. woke_lowers _ p laws rows own x;
  first_lowers = λ p laws. first_room _ p laws;
  growth_lowers = λ p laws rows own rank falls x. growth_lowers _ p laws rows own x rank falls;
  growth_leaves_room = λ p laws rows own x limit. growth_room _ p laws limit rows x own;
  evaluated_lowers = λ p laws rows own x. evaluated_lowers _ p laws rows own x;
  evaluated_leaves_room = λ p laws rows x limit. evaluated_room _ p laws limit rows x;
  evaluated_leaves_ranks = λ p laws rows rank x. evaluated_ranks _ p laws 0 rows x rank;
}
