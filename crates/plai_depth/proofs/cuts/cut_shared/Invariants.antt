use Rattle.std.proofs.Common.{◌≡◌, map, take}
use Rattle.plai_depth_laws.specs.Skeletons.{cut}
use Rattle.plai_depth.proofs.cuts.cut_shared.Given as goal

abbrev pub invariant-loop-skeleton : goal.invariant-loop-skeleton
invariant-loop-skeleton l = l.all.items ≡ map (cut l.depth) (take l.skeleton-index l.skeletons)
