-- Each clause is a theorem of proofs/.
use Rattle.plai_fix_laws.proofs.Pairs.{reopens}
use Rattle.plai_fix_laws.proofs.Placements.{makes_called, makes_entry, ends_met, closes_met, closes_unmet, ends_here, stops_entry}
use Rattle.plai_fix_laws.proofs.work_laws.placing_laws.Goals as goal

pub returns : goal.returns
returns g c = record {
  reopens = λ p laws limit start log k unmet n i called waiting. reopens _ p laws _ limit start log k unmet n i called waiting;
  makes_called = λ p laws limit start log k new unmet n i called waiting y inside absent room makes. makes_called _ p laws _ limit start log k new
      unmet n i called
      waiting y inside absent room makes;
  makes_entry = λ p laws limit start log k new unmet working y inside absent room makes. makes_entry _ p laws _ limit start log k new unmet working y inside
      absent room makes;
  ends_met = λ p laws limit start log k unmet n i called found waiting linked. ends_met _ p laws _ limit start log k unmet n i called found waiting linked;
  closes_met = λ p laws limit start log k new unmet n i called found waiting set linked. closes_met _ p laws _ limit start log k new unmet n i called found
      waiting set linked;
  closes_unmet = λ p laws limit start log k new unmet marked n i called found waiting set linked no_room marks.
      closes_unmet _ p laws _ limit start log k new unmet marked n i called found waiting set linked no_room marks;
  ends = λ p laws limit start log k unmet working clean free entries. ends_here _ p laws _ limit start log k unmet working clean free entries;
  stops = λ p laws limit start log k unmet working clean x i absent no_room. stops_entry _ p laws _ limit start log k unmet working clean x i absent no_room;
}
