use Rattle.plai_bdd.specs.Chain.{IsChain}
use Rattle.plai_bdd.proofs.chain.chain.Given as goal

abbrev pub invariant-loop-slot : goal.invariant-loop-slot
invariant-loop-slot l = IsChain l.all l.slot l.nodes.items
