use Rattle.plai_bdd.proofs.Steps.{ok_then}
use Rattle.plai_pos.proofs.Refined.{not_is}
use Rattle.plai_pos.proofs.refine.not_variable.Goals as goal

pub returns : goal.returns
returns c = ok_then _ _ (λ b h. not_is c.in_ok-slot.slot c.in_ok-never.never b c.args.variable c.in_ok-never.ensures c.in_ok-slot.ensures h) c.iff.result
    c.iff.ensures
