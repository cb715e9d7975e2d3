use Rattle.std.proofs.Common.{◌≡◌, false, take, nat_eq}
use Rattle.std.specs.List.{list_any}
use Rattle.plai_sld.specs.Pending.{keys}
use Rattle.plai_sld.proofs.pending.is_bound.Given as goal

abbrev pub invariant-loop-pair : goal.invariant-loop-pair
invariant-loop-pair l = list_any (nat_eq l.variable) (keys (take l.pair-index l.pairs)) ≡ false
