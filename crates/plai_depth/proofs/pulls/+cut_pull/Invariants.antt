use Rattle.std.proofs.Common.{◌≡◌, take}
use Rattle.plai_depth_laws.specs.Operations.{pulled}
use Rattle.plai_depth.proofs.pulls.+cut_pull.Given as goal

abbrev pub invariant-cut_pulls-loop-term : goal.invariant-cut_pulls-loop-term
invariant-cut_pulls-loop-term l = l.all.items ≡ pulled l.depth (take l.term-index l.terms) l.skeletons
