use Rattle.std.proofs.Common.{◌≡◌, take}
use Rattle.plai_terms.specs.Preorder.{referred}
use Rattle.plai_sld.proofs.Walked.{walked}
use Rattle.plai_sld.proofs.limits.limit_of.Given as goal

abbrev pub invariant-loop-node : goal.invariant-loop-node
invariant-loop-node l = l.limit ≡ walked (referred (take l.node-index l.node-items))
