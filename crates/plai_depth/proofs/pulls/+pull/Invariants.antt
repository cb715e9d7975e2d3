use Rattle.std.proofs.Common.{◌≡◌, map, take}
use Rattle.plai_depth_laws.specs.Moves.{pull}
use Rattle.plai_depth.proofs.pulls.+pull.Given as goal

abbrev pub invariant-pull_all-loop-term : goal.invariant-pull_all-loop-term
invariant-pull_all-loop-term l = l.all.items ≡ map (pull l.skeletons) (take l.term-index l.terms)
