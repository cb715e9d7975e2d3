use Rattle.std.proofs.Common.{take}
use Rattle.plai_bdd.proofs.Sets.{AreBranches}
use Rattle.plai_bdd.proofs.used.branch_slots.Given as goal

abbrev pub invariant-loop-node : goal.invariant-loop-node
invariant-loop-node l = AreBranches l.slots (take l.node-index l.nodes)
