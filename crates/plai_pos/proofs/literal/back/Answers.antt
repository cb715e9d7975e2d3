use Rattle.std.proofs.Common.{◌≡◌, ◌^◌, length, filter, sym, ap, ◌∙◌, subst, arith}
use Rattle.plai_base.proofs.Sets.{IsSet-kept}
use Rattle.plai_base.specs.Mask.{has_slot}
use Rattle.plai_base.specs.Sets.{has}
use Rattle.plai_bdd.specs.Nodes.{holds}
use Rattle.plai_factors.specs.Product.{together}
use Rattle.plai_bdd.proofs.Steps.{ok_then}
use Rattle.plai_pos_laws.specs.Groundness.{state_with}
use Rattle.plai_pos.specs.TermSlots.{AreBelow}
use Rattle.plai_pos.specs.Values.{IsDiagram, models_in, models_of}
use Rattle.plai_pos.proofs.Alike.{positive_function}
use Rattle.plai_pos.proofs.Equal.{value_diagram}
use Rattle.plai_pos.proofs.Factors.{filter_models}
use Rattle.plai_pos.proofs.Determined.{answered_whole}
use Rattle.plai_pos.proofs.literal.back.Goals as goal

pub preimage-requires-clause-slots : goal.preimage-requires-clause-slots
preimage-requires-clause-slots c =
    let seen : length c.as_slice.result.now ≡ length c.in_ok-sets.sets.items = ap length c.as_slice.ensures.value in
    omega (arith, seen, c.in_ok-sets.ensures.size, c.requires.slots)

pub preimage-requires-clause-below : goal.preimage-requires-clause-below
preimage-requires-clause-below c = subst (AreBelow c.args.state.now.variables) (sym c.as_slice.ensures.value) c.in_ok-sets.ensures.below

pub preimage-requires-clause-function : goal.preimage-requires-clause-function
preimage-requires-clause-function c =
    let size = ap length c.as_slice.ensures.value ∙ c.in_ok-sets.ensures.size in
    subst (λ k. IsDiagram k c.args.answer.now.diagram) (c.requires.answer ∙ sym size) (value_diagram c.args.answer.now)

pub with_function-requires : goal.with_function-requires
with_function-requires c = positive_function c.args.state.now.variables c.in_ok-known.known c.in_ok-known.ensures.diagram

pub returns : goal.returns
returns c =
    let s = c.args.state.now in
    let given = c.args.answer.now in
    let ys = models_in s.variables (together s.factors.items) in
    let is = IsSet-kept (2 ^ s.variables) (λ y. together s.factors.items (has_slot y)) in
    let made = filter_models s.variables (λ y. holds c.in_ok-known.known (has_slot y)) ys is ∙ ap (λ xs. filter (has xs) ys) c.in_ok-known.ensures.models in
    ok_then _ _
    (λ next h.
    h ∙ ap (state_with s.arity s.variables)
    (answered_whole s.arity s.variables s.sets.items ys s.size is
    c.args.args.now c.requires.below c.in_ok-sets.sets.items c.in_ok-sets.ensures c.as_slice.result.now c.as_slice.ensures.value
    (λ k. models_of k given.diagram) given.arity c.requires.answer (filter (λ y. holds c.in_ok-known.known (has_slot y)) ys) made))
    c.with_function.result c.with_function.ensures
