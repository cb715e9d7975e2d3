use Rattle.std.proofs.Common.{sym, ap, ◌∙◌}
use Rattle.plai_terms.specs.Term.{is_within}
use Rattle.plai_terms.proofs.Within.{is_within-Var, other_within}
use Rattle.plai_terms.proofs.walk.is_within.Goals as goal

pub returns-in-Var : goal.returns-in-Var
returns-in-Var c = sym (ap (is_within c.args.limit) c.in-Var.is ∙ is_within-Var c.args.limit c.in-Var.number)

pub returns-in_default : goal.returns-in_default
returns-in_default c = sym (other_within _ _ c.in_default.not-Var)
