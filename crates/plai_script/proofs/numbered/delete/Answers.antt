use Rattle.std.proofs.Common.{[], ◌∷◌}
use Rattle.plai_script.proofs.Touched.{others_after, others_without_clause}
use Rattle.plai_script.proofs.numbered.delete.Goals as goal

pub returns-in_ok-remove_clause-in-Some-clause-others : goal.returns-in_ok-remove_clause-in-Some-clause-others
returns-in_ok-remove_clause-in-Some-clause-others c =
    others_after (c.args.pred.now ∷ []) c.args.program.now c.remove_clause.new.self _ c.in_ok-remove_clause-in-Some.ensures.ok
    (others_without_clause c.args.program.now c.args.pred.now c.in-Some.place)
