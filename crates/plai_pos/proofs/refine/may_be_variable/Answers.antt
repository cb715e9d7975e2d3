use Rattle.std.proofs.Common.{◌^◌, not, ap, ◌∙◌, refl}
use Rattle.plai_base.specs.Mask.{has_slot}
use Rattle.plai_base.proofs.Sets.{IsSet-kept}
use Rattle.plai_factors.specs.Product.{together}
use Rattle.plai_bdd.proofs.Steps.{ok_then}
use Rattle.plai_pos.specs.Values.{models_in}
use Rattle.plai_pos.proofs.Refined.{maybe_variable, always_true}
use Rattle.plai_pos.proofs.Terms.{var_below}
use Rattle.plai_pos.proofs.refine.may_be_variable.Goals as goal

pub may_be_false-requires : goal.may_be_false-requires
may_be_false-requires c = var_below c.args.state.now.variables c.in-Var.number c.args.term.now c.in-Var.is c.requires

pub returns-in-Var : goal.returns-in-Var
returns-in-Var c =
    let s = c.args.state.now in
    ok_then _ _
    (λ may h.
    h ∙ ap not (always_true s.arity s.variables c.in-Var.number s.sets.items (models_in s.variables (together s.factors.items)) s.size
    (IsSet-kept (2 ^ s.variables) (λ y. together s.factors.items (has_slot y))))
    ∙ maybe_variable s.arity c.in-Var.number _ c.args.term.now _ c.in-Var.is refl)
    c.may_be_false.result c.may_be_false.ensures
