use Rattle.std.proofs.Common.{◌&&◌, ◌∙◌, ap}
use Rattle.plai_bdd.specs.Slots.{conjunction}
use Rattle.plai_bdd.proofs.Steps.{ok_then}
use Rattle.plai_pos.specs.TermSlots.{allowed_all}
use Rattle.plai_pos.proofs.Masks.{conjunction-none}
use Rattle.plai_pos.proofs.Allowed.{described, all_allowed}
use Rattle.plai_pos.proofs.properties.describe.Goals as goal

pub loop-property-init : goal.loop-property-init
loop-property-init c = λ at. ap (λ b. b && allowed_all c.args.properties.now at) (ap (λ m. conjunction m at) c.empty-slots.ensures ∙ conjunction-none at)

pub returns : goal.returns
returns c =
    ok_then _ _ (λ b h. described c.args.arity c.loop-property.slots c.args.properties.now b
    c.requires.within (all_allowed c.loop-property.slots c.loop-property.property-index c.args.properties.now c.loop-property-test.false
    c.loop-property.invariant) h)
    c.all_of.result c.all_of.ensures.function
