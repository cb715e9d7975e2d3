use Rattle.std.proofs.Common.{◌≡◌, ◌++◌, map, take, bit_or}
use Rattle.plai_share.proofs.unions.push_unions.Given as goal

abbrev pub invariant-loop-other : goal.invariant-loop-other
invariant-loop-other l = l.masks.items ≡ l.initial.masks.items ++ map (bit_or l.mask) (take l.other-index l.others)
