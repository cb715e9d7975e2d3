use Rattle.std.proofs.Common.{subst, sym}
use Rattle.plai_bdd.specs.Nodes.{IsFunction}
use Rattle.plai_bdd.proofs.Functions.{variable_is}
use Rattle.plai_bdd.proofs.bdd.Bdd.variable.Goals as goal

pub invariant_of-result : goal.invariant_of-result
invariant_of-result c = (subst (λ l. IsFunction l (λ at. at c.args.slot)) (sym c.in_ok-nodes.ensures.items) (variable_is c.args.slot c.requires)).canonical

pub returns : goal.returns
returns c = subst (λ l. IsFunction l (λ at. at c.args.slot)) (sym c.in_ok-nodes.ensures.items) (variable_is c.args.slot c.requires)
