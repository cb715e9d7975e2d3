use Rattle.std.proofs.Common.{◌≡◌, ◌++◌, map, take}
use Rattle.std.specs.List.{join_with_byte}
use Rattle.plai_terms.specs.Pattern.{skeleton_text}
use Rattle.plai_terms.proofs.pattern.+write.Given as goal

abbrev pub invariant-write_skeletons-loop-i : goal.invariant-write_skeletons-loop-i
invariant-write_skeletons-loop-i l = l.out.items ≡ l.initial.out.items ++ join_with_byte 44 (map skeleton_text (take l.i l.skeletons))
