use Rattle.plai_bdd.proofs.Replaced.{IsReplacing}
use Rattle.plai_bdd.proofs.replace.replaced_root.Given as goal

abbrev pub invariant-loop-node : goal.invariant-loop-node
invariant-loop-node l = IsReplacing l.nodes l.sets l.node-index l.made.items
