use Rattle.std.proofs.Common.{refl, ◌∙◌}
use Rattle.plai_sld.proofs.Reached.{start_state}
use Rattle.plai_sld.proofs.run.Run.start.Goals as goal

pub invariant_of-result : goal.invariant_of-result
invariant_of-result c =
    start_state c.args.pred.now c.args.args.now c.in_ok-stack.stack.items _ c.in_ok-next.next _ _ c.requires.arity c.in_ok-stack.ensures.items refl
    c.in_ok-copy.ensures (c.new.ensures ∙ c.in_ok-copy_terms.ensures)
    c.in_ok-next.ensures
