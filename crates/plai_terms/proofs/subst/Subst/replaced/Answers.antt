use Rattle.std.proofs.Common.{sym, ap, ◌∙◌}
use Rattle.plai_terms.specs.Preorder.{with_arguments}
use Rattle.plai_terms.specs.Subst.{apply_of}
use Rattle.plai_terms.proofs.Renewed.{replaced_is, behind_Var, always}
use Rattle.plai_terms.proofs.Substs.{apply_of-Var}
use Rattle.plai_terms.proofs.subst.Subst.replaced.Goals as goal

pub returns-in-Var-clause-term : goal.returns-in-Var-clause-term
returns-in-Var-clause-term c = rw (ap (apply_of c.args.self.now) c.in-Var.is ∙ apply_of-Var c.args.self.now c.in-Var.number) c.look_up.ensures

pub returns-in-Var-clause-others : goal.returns-in-Var-clause-others
returns-in-Var-clause-others c = always _ (behind_Var _ _ _ c.in-Var.is)

pub returns-in_default-clause-term : goal.returns-in_default-clause-term
returns-in_default-clause-term c =
    let node = c.args.node.now in
    rw (sym (ap (with_arguments node) c.requires.replaced ∙ replaced_is c.args.self.now node c.in_default.not-Var)) c.renewed.ensures.term
