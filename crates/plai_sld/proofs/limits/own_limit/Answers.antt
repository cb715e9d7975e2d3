use Rattle.std.proofs.Common.{◌≡◌, suc, sym, ap, ◌∙◌, arith}
use Rattle.plai_sld.specs.Limits.{own_limit}
use Rattle.plai_sld.proofs.Walked.{own_limit-Var, other_limit}
use Rattle.plai_sld.proofs.limits.own_limit.Goals as goal

pub returns-in-Var : goal.returns-in-Var
returns-in-Var c =
    let e : own_limit c.args.term.now ≡ suc c.in-Var.number = ap own_limit c.in-Var.is ∙ own_limit-Var c.in-Var.number in
    omega arith

pub returns-in_default : goal.returns-in_default
returns-in_default c = sym (other_limit _ c.in_default.not-Var)
