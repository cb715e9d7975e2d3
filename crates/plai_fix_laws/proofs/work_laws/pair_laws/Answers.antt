-- Each clause is a theorem of proofs/.
use Rattle.plai_fix_laws.proofs.Pairs.{evaluates, links, settles, grows}
use Rattle.plai_fix_laws.proofs.work_laws.pair_laws.Goals as goal

pub returns : goal.returns
returns g c = record {
  evaluates = λ p laws limit start log k new unmet left working n i r at b s live dirty within clears others own answer called is_answer is_called.
      evaluates _ p laws _ limit start log k new unmet left working n i r at live b s dirty within clears others own answer called is_answer is_called;
  linked = λ p laws limit start log k new unmet n i called left answer found has set linked absent. links _ p laws _ limit start log k new unmet n i
      called left answer
      found has set linked absent;
  settles = λ p laws limit start log k open_pair unmet n i called answer has same. settles _ p laws _ limit start log k open_pair unmet n i called
      answer has same;
  grows = λ p laws limit start log k new unmet n i called answer a has is other answers. grows _ p laws _ limit start log k new unmet n i called answer a has is
      other answers;
}
