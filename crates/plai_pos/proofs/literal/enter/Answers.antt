use Rattle.std.proofs.Common.{◌≡◌, ◌&&◌, length, refl, sym, ap, ◌∙◌, subst, arith}
use Rattle.plai_bdd.specs.Nodes.{holds}
use Rattle.plai_factors.specs.Product.{together}
use Rattle.plai_pos_laws.specs.Groundness.{state_with}
use Rattle.plai_pos.specs.TermSlots.{AreBelow}
use Rattle.plai_pos.specs.Values.{IsDiagram, models_of, determined}
use Rattle.plai_pos.proofs.Alike.{positive_function}
use Rattle.plai_pos.proofs.Factors.{positive_alone, models_alone}
use Rattle.plai_pos.proofs.Equal.{value_diagram}
use Rattle.plai_pos.proofs.Determined.{begun_whole}
use Rattle.plai_pos.proofs.literal.enter.Goals as goal

pub preimage-requires-clause-slots : goal.preimage-requires-clause-slots
preimage-requires-clause-slots c =
    let seen : length c.as_slice.result.now ≡ length c.in_ok-sets.sets.items = ap length c.as_slice.ensures.value in
    omega (arith, seen, c.in_ok-sets.ensures.size, c.requires.arity, c.requires.slots)

pub preimage-requires-clause-below : goal.preimage-requires-clause-below
preimage-requires-clause-below c = subst (AreBelow c.args.variables) (sym c.as_slice.ensures.value) c.in_ok-sets.ensures.below

pub preimage-requires-clause-function : goal.preimage-requires-clause-function
preimage-requires-clause-function c =
    let size = ap length c.as_slice.ensures.value ∙ c.in_ok-sets.ensures.size in
    subst (λ k. IsDiagram k c.args.call.now.diagram) (sym c.requires.arity ∙ sym size) (value_diagram c.args.call.now)

pub invariant_of-result : goal.invariant_of-result
invariant_of-result c =
    let are = c.in_ok-sets.ensures in
    let p = positive_alone c.args.variables c.in_ok-diagram.diagram c.in_ok-factors.factors.items
    (λ at. c.in_ok-factors.ensures at ∙ ap (λ fs. together fs at && holds c.in_ok-diagram.diagram at) c.new.ensures.items)
    (positive_function c.args.variables c.in_ok-diagram.diagram c.in_ok-diagram.ensures.diagram) in
    record { small = c.args.call.now.small; slots = c.requires.slots; size = are.size ∙ c.requires.arity; below = are.below; over = p.over; top = p.top }

pub returns : goal.returns
returns c =
    ap (λ ys. state_with c.args.call.now.arity c.args.variables (determined c.args.call.now.arity c.args.variables c.in_ok-sets.sets.items ys))
    (models_alone c.args.variables c.in_ok-diagram.diagram c.in_ok-factors.factors.items
    (λ at. c.in_ok-factors.ensures at ∙ ap (λ fs. together fs at && holds c.in_ok-diagram.diagram at) c.new.ensures.items))
    ∙ ap (state_with c.args.call.now.arity c.args.variables)
    (begun_whole c.args.call.now.arity c.args.variables c.args.head.now c.in_ok-sets.sets.items _ c.requires.arity c.in_ok-sets.ensures c.as_slice.result.now
    c.as_slice.ensures.value
    (λ k. models_of k c.args.call.now.diagram) refl (models_of c.args.variables c.in_ok-diagram.diagram) c.in_ok-diagram.ensures.models)
