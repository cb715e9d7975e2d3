use Rattle.std.proofs.Common.{◌-◌, ◌^◌, filter, ap, ◌∙◌, arith}
use Rattle.plai_base.proofs.Sets.{IsSet-kept}
use Rattle.plai_base.specs.Mask.{has_slot}
use Rattle.plai_factors.specs.Product.{together}
use Rattle.plai_pos.specs.Values.{models_in}
use Rattle.plai_pos_laws.specs.Groundness.{state_with}
use Rattle.plai_bdd.proofs.Steps.{ok_then}
use Rattle.plai_pos.proofs.Refined.{satisfied_is, truth_positive}
use Rattle.plai_pos.proofs.Terms.{term_below}
use Rattle.plai_pos.proofs.refine.satisfied.Goals as goal

pub truth-requires-clause-below : goal.truth-requires-clause-below
truth-requires-clause-below c = term_below c.args.state.now.variables c.args.args.now (c.args.argument - 1) c.index-args-argument.result c.requires.below
    c.index-args-argument.is (omega (arith, c.requires.argument.0, c.requires.argument.1))

pub with_function-requires : goal.with_function-requires
with_function-requires c =
    truth_positive c.args.state.now.variables c.in_ok-all.all c.index-args-argument.result
    (term_below c.args.state.now.variables c.args.args.now (c.args.argument - 1) c.index-args-argument.result c.requires.below c.index-args-argument.is
    (omega (arith, c.requires.argument.0, c.requires.argument.1)))
    c.in_ok-all.ensures

pub returns : goal.returns
returns c =
    let s = c.args.state.now in
    let ys = models_in s.variables (together s.factors.items) in
    ok_then _ _
    (λ next h.
    h ∙ ap (state_with s.arity s.variables)
    (satisfied_is s.arity s.variables s.sets.items ys s.size (IsSet-kept (2 ^ s.variables) (λ y. together s.factors.items (has_slot y))) c.args.args.now
    c.requires.below _
    (c.args.argument - 1) (omega (arith, c.requires.argument.0, c.requires.argument.1)) c.index-args-argument.result c.index-args-argument.is
    (λ i. filter (λ y. c.in_ok-all.ensures.answers (has_slot y) i) ys)))
    c.with_function.result c.with_function.ensures
