-- Each clause is a theorem of proofs/.
use Rattle.plai_fix_laws.proofs.Working.{evaluated, nothing_due}
use Rattle.plai_fix_laws.proofs.Grown.{grew, makes_row}
use Rattle.plai_fix_laws.proofs.laws.step_laws.Goals as goal

pub returns : goal.returns
returns g c = record {
  evaluated = λ p laws limit start log k new unmet left working n i r at live b s dirty within clears others own.
      evaluated _ p laws _ limit start log k new unmet left working n i r at live b s dirty within clears others own;
  grew = λ p laws limit start log k new n i r unmet done at a is other answers. grew _ p laws _ limit start log k new n i r unmet done at a is other answers;
  settled = λ p limit start log k open_pair n i x unmet laws done same. nothing_due _ p laws _ limit start log k open_pair n i x unmet done same;
  made = λ p laws limit start log k new open_pair waiting unmet working waits x demanded absent room makes.
      makes_row _ p laws _ limit start log k new open_pair waiting unmet working waits x demanded absent room makes;
}
