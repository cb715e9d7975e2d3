-- Each clause is a theorem of proofs/.
use Rattle.plai_fix_laws.proofs.Ends.{nothing_opens, begins, ends, stops, stops_at_entry}
use Rattle.plai_fix_laws.proofs.laws.end_laws.Goals as goal

pub returns : goal.returns
returns g c = record {
  nothing = λ p k none clean silent. nothing_opens _ p k none clean silent;
  begins = λ p laws limit start k unmet opens free. begins _ p _ limit start k unmet opens free;
  ends = λ p laws limit start log k unmet working clean free entries. ends _ p laws _ limit start log k unmet working clean free entries;
  stops = λ p laws limit start log k unmet working clean n m mark. stops _ p laws _ limit start log k unmet working clean n m mark;
  stops_at_entry = λ p laws limit start log k unmet working clean x i no_room dead. stops_at_entry _ p laws _ limit start log k unmet working clean x i
      no_room dead;
}
