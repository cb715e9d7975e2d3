use Rattle.std.proofs.Common.{arith, subst, sym}
use Rattle.plai_bdd.specs.Chain.{IsChain}
use Rattle.plai_bdd.proofs.Chains.{chain_start, chain_is}
use Rattle.plai_bdd.proofs.chain.chain.Goals as goal

pub loop-slot-init : goal.loop-slot-init
loop-slot-init c = subst (IsChain c.args.all 64) (sym c.in_ok-nodes.ensures.items) (chain_start c.args.all)

pub returns : goal.returns
returns c = chain_is c.args.all c.loop-slot.slot c.loop-slot.nodes.items (omega arith) c.requires.0 c.requires.1.0 c.requires.1.1 c.loop-slot.invariant
