use Rattle.std.proofs.Common.{◌≡◌, take}
use Rattle.plai_depth.proofs.state.share_all.Given as goal

abbrev pub invariant-loop-skeleton : goal.invariant-loop-skeleton
invariant-loop-skeleton l = l.all.items ≡ take l.skeleton-index l.skeletons
