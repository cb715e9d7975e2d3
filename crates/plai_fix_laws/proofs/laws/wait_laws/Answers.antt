-- Each clause is a theorem of proofs/.
use Rattle.plai_fix_laws.proofs.Grown.{sets, opens}
use Rattle.plai_fix_laws.proofs.Waiting.{waits_no_more, waits_for_ever}
use Rattle.plai_fix_laws.proofs.laws.wait_laws.Goals as goal

pub returns : goal.returns
returns g c = record {
  closed = λ p laws limit start log k new n i logged r at b s called set inside right. sets _ p laws _ limit start log k new n i logged r at b s called set
      inside right;
  opened = λ p laws limit start log k open_pair logged. opens _ p laws _ limit start log k open_pair logged;
  met = λ p laws rows n i unmet met r at all. waits_no_more _ p laws rows n i unmet met r at all;
  unmet = λ p laws limit rows n i unmet marked met full marks r at live real no_room y inside dead. waits_for_ever _ p laws limit rows n i unmet marked met full
      marks r at live real no_room y inside dead;
}
