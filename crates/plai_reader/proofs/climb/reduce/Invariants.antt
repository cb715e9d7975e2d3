use Rattle.std.proofs.Common.{◌≡◌, reverse, vec_len}
use Rattle.plai_reader.specs.Climb.{popped}
use Rattle.plai_reader.specs.Limits.{kept_trees}
use Rattle.plai_reader.proofs.climb.reduce.Given as goal

abbrev pub invariant-loop-frame : goal.invariant-loop-frame
invariant-loop-frame l =
    popped kept_trees l.operator (reverse l.initial.frames.items) l.initial.current ≡ popped kept_trees l.operator (reverse l.frames.items) l.current

abbrev pub decreases-loop-frame : goal.decreases-loop-frame
decreases-loop-frame l = vec_len l.frames
