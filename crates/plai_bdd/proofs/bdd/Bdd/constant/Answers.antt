use Rattle.std.proofs.Common.{subst, sym}
use Rattle.plai_bdd.specs.Nodes.{IsFunction}
use Rattle.plai_bdd.proofs.Functions.{constant_is}
use Rattle.plai_bdd.proofs.bdd.Bdd.constant.Goals as goal

pub invariant_of-result : goal.invariant_of-result
invariant_of-result c = (subst (λ l. IsFunction l (λ _. c.args.value)) (sym c.in_ok-nodes.ensures.items) (constant_is c.args.value)).canonical

pub returns : goal.returns
returns c = subst (λ l. IsFunction l (λ _. c.args.value)) (sym c.in_ok-nodes.ensures.items) (constant_is c.args.value)
