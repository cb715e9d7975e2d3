use Rattle.std.proofs.Common.{sym, subst, ◌∙◌}
use Rattle.plai_bdd.specs.Nodes.{IsCanonical, IsFunction, holds}
use Rattle.plai_bdd.specs.Replace.{replaced}
use Rattle.plai_bdd.proofs.Steps.{ok_then}
use Rattle.plai_bdd.proofs.bdd.Bdd.replaced.Goals as goal

pub replaced_root-requires : goal.replaced_root-requires
replaced_root-requires c = subst IsCanonical (sym c.as_slice.ensures.value) c.self.invariant

pub returns : goal.returns
returns c =
    ok_then _ _
    (λ b h. subst (λ l. IsFunction b (λ at. holds l (replaced c.args.sets.now at))) (c.as_slice.ensures.value ∙ c.self.view_is) h)
    c.replaced_root.result c.replaced_root.ensures
