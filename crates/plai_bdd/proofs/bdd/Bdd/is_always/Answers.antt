use Rattle.std.proofs.Common.{◌≡◌, ◌↔◌, true, List, [], ◌∷◌, IsTrue, subst, ◌∙◌}
use Rattle.plai_bdd.specs.declared.node.Node.{Node}
use Rattle.plai_bdd.specs.declared.node.Node.TheVariants.{Leaf}
use Rattle.plai_bdd.specs.Nodes.{IsCanonical}
use Rattle.plai_bdd.proofs.Sets.{always_decides}
use Rattle.plai_bdd.proofs.bdd.Bdd.is_always.Goals as goal

pub returns : goal.returns
returns c =
    let P : List Node → Type 0 = λ l. IsTrue c.is_always.result ↔ (l ≡ Leaf true ∷ []) in
    always_decides c.args.self.now c.is_always.result (subst IsCanonical c.self.view_is c.self.invariant)
    (subst P (c.as_slice.ensures.value ∙ c.self.view_is) c.is_always.ensures)
