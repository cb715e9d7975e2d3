use Rattle.std.proofs.Common.{◌≡◌, ◌++◌, map, take}
use Rattle.std.specs.List.{join_with_byte}
use Rattle.plai_terms.specs.Groups.{group_text}
use Rattle.plai_terms.proofs.groups.write_lists.Given as goal

abbrev pub invariant-loop-i : goal.invariant-loop-i
invariant-loop-i l = l.out.items ≡ l.initial.out.items ++ join_with_byte 44 (map (λ list. group_text list.items) (take l.i l.lists))
