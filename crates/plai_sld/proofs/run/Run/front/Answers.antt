use Rattle.std.proofs.Common.{sym, ap, subst, ◌∙◌}
use Rattle.plai_sld.specs.Fronts.{IsFront}
use Rattle.plai_sld.specs.Nexts.{waiting_under}
use Rattle.plai_sld.proofs.Stacks.{front_is}
use Rattle.plai_sld.proofs.run.Run.front.Goals as goal

pub returns-in-Some : goal.returns-in-Some
returns-in-Some c =
    let is = front_is c.self.inside.stack.items c.in-Some.field-0-1.now c.in-Some.first.now (sym c.deref.ensures.value ∙ c.in-Some.ensures.cases.0) in
    subst (λ items. IsFront items c.front_of.result) (sym is ∙ ap (λ state. state.items) c.self.view_is)
    (c.front_of.ensures (waiting_under c.in-Some.first.now.below.bindings c.in-Some.field-0-1.now))
