use Rattle.std.proofs.Common.{refl, ◌∙◌}
use Rattle.plai_sld.proofs.Stacks.{brought_some}
use Rattle.plai_sld.proofs.stack.brought.Goals as goal

pub returns-in_ok-top-in-Some : goal.returns-in_ok-top-in-Some
returns-in_ok-top-in-Some c =
    brought_some c.args.bindings.now c.args.stack.now c.in-Some.rest.now c.in-Some.front.now
    (record { item = c.in_ok-item-in-Some.item; below = c.in_ok-below-in-Some.below }) _ c.new-in-Some.result c.requires c.in-Some.ensures.cases.0
    c.in_ok-item-in-Some.ensures c.in_ok-below-in-Some.ensures.limit c.in_ok-below-in-Some.ensures.both refl
    (c.new-in-Some.ensures ∙ c.in_ok-top-in-Some.ensures.items)
