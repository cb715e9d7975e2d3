-- Each clause is a theorem of proofs/.
use Rattle.plai_theory.proofs.Rounds.{rounds_least, unchanged_covers}
use Rattle.plai_theory.proofs.Count.{rounds_within, rounds_below}
use Rattle.plai_theory.proofs.round_theorems.round_laws.Goals as goal

pub returns : goal.returns
returns g c = record {
  rounds_give_it = λ p laws rows result made closed. rounds_least _ p laws _ rows made closed result;
  unchanged_covers = λ p laws. unchanged_covers _ p laws;
  rounds_are_enough = λ p laws order rows least. rounds_within _ p laws _ order rows least;
  rounds_lie_below = λ p laws order rows least. rounds_below _ p laws _ order rows least;
}
