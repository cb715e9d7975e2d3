use Rattle.std.proofs.Common.{◌∷◌, sym, ap, ◌∙◌}
use Rattle.std.proofs.lemmas.Bool.{le-ltb}
use Rattle.std.proofs.lemmas.Result.{IfOk-weaker}
use Rattle.plai_sld.specs.declared.item.Item.TheVariants.{Call}
use Rattle.plai_sld.specs.Nexts.{waiting_under}
use Rattle.plai_sld.proofs.Found.{at_call}
use Rattle.plai_sld.proofs.run.next_at_front.Goals as goal

pub returns-else-number-gt-GREATEST_NUMBER : goal.returns-else-number-gt-GREATEST_NUMBER
returns-else-number-gt-GREATEST_NUMBER c =
    let rest = waiting_under c.args.front.now.below.bindings c.args.stack.now in
    IfOk-weaker c.next_at_call.result _ _
    (λ next h.
    at_call c.args.program.now c.in-Call.pred c.as_slice-args.result.now c.args.front.now.below.bindings c.args.stack.now c.args.number c.args.choice
    (le-ltb _ _ c.if-number-gt-GREATEST_NUMBER.false) (c.args.front.now.item ∷ rest) next
    (ap (λ x. x ∷ rest) (c.in-Call.is ∙ ap (Call c.in-Call.pred) (sym c.as_slice-args.ensures))) h)
    c.next_at_call.ensures
