use Rattle.std.proofs.Common.{◌≡◌, reverse}
use Rattle.plai_reader.specs.Climb.{finished}
use Rattle.plai_reader.specs.Limits.{kept_trees}
use Rattle.plai_reader.proofs.climb.finish.Given as goal

abbrev pub invariant-loop-frame : goal.invariant-loop-frame
invariant-loop-frame l = finished kept_trees (reverse l.initial.frames.items) l.initial.current ≡ finished kept_trees (reverse l.frames.items) l.current

abbrev pub decreases-loop-frame : goal.decreases-loop-frame
decreases-loop-frame l = goal.left-loop-frame l
