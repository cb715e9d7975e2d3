use Rattle.std.proofs.Common.{◌≡◌, ◌+◌, ◌++◌, [], ◌∷◌, length, refl, ap, ◌∙◌, arith}
use Rattle.plai_factors.specs.Product.{together}
use Rattle.plai_pos.proofs.Terms.{set_at}
use Rattle.plai_pos.proofs.Literals.{joining_none, joining_more, joining_all}
use Rattle.plai_pos.proofs.literal.with_terms.Goals as goal

pub loop-place-init : goal.loop-place-init
loop-place-init c = joining_none c.args.end c.args.sets.now c.args.functions.items c.args.functions.items refl

pub loop-place-preserved : goal.loop-place-preserved
loop-place-preserved c =
    let place = c.loop-place.place in
    joining_more c.args.end c.args.sets.now (together c.args.functions.items) place (c.args.end + place) c.index-sets-place.result c.loop-place.all.items
    c.push.new.self.items
    c.in_ok-unified.unified refl (λ at. set_at _ _ place c.index-sets-place.result at refl c.index-sets-place.is c.loop-place-test.true)
    (c.in_ok-push.ensures.items ∙ ap (λ f. c.loop-place.all.items ++ f ∷ []) c.in_ok-new.ensures) c.in_ok-unified.ensures.function c.loop-place.invariant

pub returns : goal.returns
returns c =
    let all : c.loop-place.place ≡ length c.args.sets.now = omega (arith, c.loop-place-test.false, c.loop-place.auto.place-end) in
    joining_all c.args.end c.args.sets.now (together c.args.functions.items) c.loop-place.place c.loop-place.all.items all c.loop-place.invariant
