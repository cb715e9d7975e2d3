use Rattle.std.proofs.Common.{length, ap, ◌∙◌}
use Rattle.std.proofs.lemmas.List.{length-replicate}
use Rattle.plai_terms.specs.declared.skeleton.Skeleton.{Any}
use Rattle.plai_depth.proofs.Described.{with_properties, described, described_next, length_kept}
use Rattle.plai_depth.proofs.properties.describe.Goals as goal

pub loop-property-init : goal.loop-property-init
loop-property-init c =
    let e = c.in_ok-skeletons.ensures in
    let ps = c.args.properties.now in
    (ap length e ∙ length-replicate c.args.arity Any, ap (with_properties ps) e ∙ described c.args.arity ps)

pub loop-property-preserved : goal.loop-property-preserved
loop-property-preserved c = (
  ap length c.set_property.ensures ∙ length_kept _ c.loop-property.skeletons.items ∙ c.loop-property.invariant.0,
  described_next c.args.arity c.args.properties.now c.loop-property.property-index _ c.loop-property.skeletons.items _ c.loop-property-test.true
      c.set_property.ensures
      c.loop-property.invariant.1,
)
