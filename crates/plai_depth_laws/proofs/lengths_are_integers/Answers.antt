use Rattle.plai_depth_laws.proofs.Examples.{list_back, list_counted, list_left, lists_joined}
use Rattle.plai_depth_laws.proofs.lengths_are_integers.Goals as goal

pub returns : goal.returns
returns c = record { back = list_back; counted = list_counted; left = list_left; joined = lists_joined }
