use Rattle.std.proofs.Common.{◌≡◌, vec_len}
use Rattle.plai_reader.specs.Limits.{kept_trees}
use Rattle.plai_reader.specs.Reading.{list_of}
use Rattle.plai_reader.proofs.build.make_list.Given as goal

abbrev pub invariant-loop-item : goal.invariant-loop-item
invariant-loop-item l = list_of kept_trees l.initial.items.items l.initial.tail ≡ list_of kept_trees l.items.items l.tail

abbrev pub decreases-loop-item : goal.decreases-loop-item
decreases-loop-item l = vec_len l.items
