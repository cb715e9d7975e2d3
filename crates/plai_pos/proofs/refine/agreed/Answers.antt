use Rattle.std.proofs.Common.{◌-◌, ◌^◌, filter, ap, ◌∙◌, arith}
use Rattle.plai_base.proofs.Sets.{IsSet-kept}
use Rattle.plai_base.specs.Mask.{has_slot}
use Rattle.plai_factors.specs.Product.{together}
use Rattle.plai_pos.specs.Values.{models_in}
use Rattle.plai_pos_laws.specs.Groundness.{state_with}
use Rattle.plai_bdd.proofs.Steps.{ok_then}
use Rattle.plai_pos.proofs.Refined.{agreed_is, agreeing_positive}
use Rattle.plai_pos.proofs.Terms.{term_below}
use Rattle.plai_pos.proofs.refine.agreed.Goals as goal

pub agreeing-requires-clause-left : goal.agreeing-requires-clause-left
agreeing-requires-clause-left c = term_below c.args.state.now.variables c.args.args.now (c.args.left - 1) c.index-args-left.result c.requires.below
    c.index-args-left.is (omega (arith, c.requires.left.0, c.requires.left.1))

pub agreeing-requires-clause-right : goal.agreeing-requires-clause-right
agreeing-requires-clause-right c = term_below c.args.state.now.variables c.args.args.now (c.args.right - 1) c.index-args-right.result c.requires.below
    c.index-args-right.is (omega (arith, c.requires.right.0, c.requires.right.1))

pub with_function-requires : goal.with_function-requires
with_function-requires c =
    agreeing_positive c.args.state.now.variables c.in_ok-same.same c.index-args-left.result c.index-args-right.result
    (term_below c.args.state.now.variables c.args.args.now (c.args.left - 1) c.index-args-left.result c.requires.below c.index-args-left.is
    (omega (arith, c.requires.left.0, c.requires.left.1)))
    (term_below c.args.state.now.variables c.args.args.now (c.args.right - 1) c.index-args-right.result c.requires.below c.index-args-right.is
    (omega (arith, c.requires.right.0, c.requires.right.1)))
    c.in_ok-same.ensures

pub returns : goal.returns
returns c =
    let s = c.args.state.now in
    let ys = models_in s.variables (together s.factors.items) in
    ok_then _ _
    (λ next h.
    h ∙ ap (state_with s.arity s.variables)
    (agreed_is s.arity s.variables s.sets.items ys s.size (IsSet-kept (2 ^ s.variables) (λ y. together s.factors.items (has_slot y))) c.args.args.now
    c.requires.below _
    (c.args.left - 1) (omega (arith, c.requires.left.0, c.requires.left.1)) c.index-args-left.result c.index-args-left.is
    (c.args.right - 1) (omega (arith, c.requires.right.0, c.requires.right.1)) c.index-args-right.result c.index-args-right.is
    (λ i. filter (λ y. c.in_ok-same.ensures.answers (has_slot y) i) ys)))
    c.with_function.result c.with_function.ensures
