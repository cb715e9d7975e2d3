-- Each clause is a theorem of proofs/.
use Rattle.plai_fix_laws.proofs.Woken.{begins_waking, ends_waking, wakes_row, meets_pair, drops_pair, leaves_pair}
use Rattle.plai_fix_laws.proofs.laws.waking_laws.Goals as goal

pub returns : goal.returns
returns g c = record {
  woke = λ p laws limit start log k new pending more unmet waking n r at asleep demanded room wakes awaits.
      wakes_row _ p laws _ limit start log k new pending more unmet waking n r at asleep demanded room wakes awaits;
  met = λ p laws limit start log k pending unmet n m waking all. meets_pair _ p laws _ limit start log k pending unmet n m waking all;
  dropped = λ p laws limit start log k pending unmet n m waking dirty. drops_pair _ p laws _ limit start log k pending unmet n m waking dirty;
  left = λ p laws limit start log k pending unmet marked n m waking no_room j calls asleep marks.
      leaves_pair _ p laws _ limit start log k pending unmet n m waking marked no_room j calls asleep marks;
  begun = λ p limit start log k unmet working. begins_waking _ p _ limit start log k unmet working;
  done = λ p limit start log k unmet waking. ends_waking _ p _ limit start log k unmet waking;
}
