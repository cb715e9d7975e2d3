use Rattle.std.proofs.Common.{◌≡◌, map, take}
use Rattle.plai_depth_laws.specs.Skeletons.{cut}
use Rattle.plai_depth.proofs.cuts.+cut.Given as goal

abbrev pub invariant-cut_all-loop-skeleton : goal.invariant-cut_all-loop-skeleton
invariant-cut_all-loop-skeleton l = l.all.items ≡ map (cut l.depth) (take l.skeleton-index l.skeletons)
