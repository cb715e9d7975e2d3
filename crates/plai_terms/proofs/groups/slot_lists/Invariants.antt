use Rattle.std.proofs.Common.{◌≡◌, map, take}
use Rattle.plai_base.specs.Mask.{slots_of}
use Rattle.plai_terms.proofs.groups.slot_lists.Given as goal

abbrev pub invariant-loop-group : goal.invariant-loop-group
invariant-loop-group l = map (λ list. list.items) l.lists.items ≡ map slots_of (take l.group-index l.groups)
