use Rattle.std.proofs.Common.{◌++◌, [], ◌∷◌, ap, ◌∙◌, arith}
use Rattle.plai_bdd.specs.Nodes.{is_model}
use Rattle.plai_pos.proofs.Equal.{state_positive}
use Rattle.plai_pos.proofs.Refined.{may_be}
use Rattle.plai_pos.proofs.refine.may_be_false.Goals as goal

pub returns : goal.returns
returns c =
    let s = c.args.state.now in
    may_be s.variables c.args.variable c.slots_from.result s.factors.items c.push.new.self.items c.in_ok-never.never c.in_ok-some.some c.is_model.result
    (omega (arith, s.slots)) (state_positive s)
    (c.in_ok-push.ensures.items ∙ (λ i. (c.in_ok-factors.ensures ∙ c.as_slice.ensures.value) i ++ c.in_ok-new.ensures i ∷ []))
    c.in_ok-never.ensures c.slots_from.ensures c.in_ok-some.ensures.meaning (c.is_model.ensures ∙ ap (is_model c.in_ok-some.some) c.empty.ensures) c.requires
