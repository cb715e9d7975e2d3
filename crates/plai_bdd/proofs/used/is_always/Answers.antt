use Rattle.std.proofs.Common.{true, [], ◌∷◌, refl}
use Rattle.plai_bdd.specs.declared.node.Node.TheVariants.{Leaf}
use Rattle.plai_bdd.proofs.Same.{lists_decided}
use Rattle.plai_bdd.proofs.used.is_always.Goals as goal

pub returns : goal.returns
returns c = lists_decided c.eq.result c.args.nodes.now (Leaf true ∷ []) c.args.nodes.now c.as_slice.result.now c.eq.ensures refl c.as_slice.ensures
