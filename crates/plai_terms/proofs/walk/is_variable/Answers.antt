use Rattle.std.proofs.Common.{sym, ap, ◌∙◌}
use Rattle.plai_terms.specs.Term.{is_variable}
use Rattle.plai_terms.proofs.Contains.{is_variable-Var, no_variable}
use Rattle.plai_terms.proofs.walk.is_variable.Goals as goal

pub returns-in-Var : goal.returns-in-Var
returns-in-Var c = sym (ap (is_variable c.args.variable) c.in-Var.is ∙ is_variable-Var c.args.variable c.in-Var.number)

pub returns-in_default : goal.returns-in_default
returns-in_default c = sym (no_variable _ _ c.in_default.not-Var)
