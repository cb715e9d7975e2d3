use Rattle.std.proofs.Common.{◌≡◌, ◌++◌, map, take}
use Rattle.std.specs.List.{join_with_byte}
use Rattle.plai_terms.specs.Groups.{slot_text}
use Rattle.plai_terms.proofs.groups.write_slots.Given as goal

abbrev pub invariant-loop-i : goal.invariant-loop-i
invariant-loop-i l = l.out.items ≡ l.initial.out.items ++ join_with_byte l.separator (map slot_text (take l.i l.slots))
