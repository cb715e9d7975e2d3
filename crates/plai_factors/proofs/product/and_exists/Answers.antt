use Rattle.std.proofs.Common.{subst}
use Rattle.plai_bdd.specs.Nodes.{IsFunction}
use Rattle.plai_bdd.proofs.Steps.{ok_then}
use Rattle.plai_bdd.proofs.Slots.{some_meaning, some_free}
use Rattle.plai_factors.specs.Product.{together}
use Rattle.plai_factors.proofs.Products.{quantifying_start, quantifying_more, quantifying_done}
use Rattle.plai_factors.proofs.product.and_exists.Goals as goal

pub loop-slot-init : goal.loop-slot-init
loop-slot-init c = quantifying_start c.args.slots c.args.factors.items

pub loop-slot-preserved : goal.loop-slot-preserved
loop-slot-preserved c =
    quantifying_more c.args.slots c.loop-slot.left c.in-Some.slot _ c.args.factors.items c.loop-slot.rest.items c.in_ok-rest.rest.items
    c.in-Some.ensures.0 c.in-Some.ensures.1 c.without_slot-left.ensures.others c.loop-slot.invariant c.in_ok-rest.ensures

pub returns-clause-function : goal.returns-clause-function
returns-clause-function c =
    ok_then _ _
    (λ b is. quantifying_done c.args.slots c.loop-slot.left c.args.factors.items c.loop-slot.rest.items b c.in_default.ensures c.loop-slot.invariant
    (subst (λ fs. IsFunction b (together fs)) c.as_slice-2.ensures.value is))
    c.conjunction.result c.conjunction.ensures

pub returns-clause-meaning : goal.returns-clause-meaning
returns-clause-meaning c =
    ok_then _ _
    (λ b is. some_meaning c.args.slots (together c.args.factors.items) b
    (quantifying_done c.args.slots c.loop-slot.left c.args.factors.items c.loop-slot.rest.items b c.in_default.ensures c.loop-slot.invariant
    (subst (λ fs. IsFunction b (together fs)) c.as_slice-2.ensures.value is)))
    c.conjunction.result c.conjunction.ensures

pub returns-clause-free : goal.returns-clause-free
returns-clause-free c =
    ok_then _ _
    (λ b is. some_free c.args.slots (together c.args.factors.items) b
    (quantifying_done c.args.slots c.loop-slot.left c.args.factors.items c.loop-slot.rest.items b c.in_default.ensures c.loop-slot.invariant
    (subst (λ fs. IsFunction b (together fs)) c.as_slice-2.ensures.value is)))
    c.conjunction.result c.conjunction.ensures
