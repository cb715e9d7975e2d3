use Rattle.std.proofs.Common.{[], ◌∷◌}
use Rattle.plai_clauses.specs.Program.{without_clauses}
use Rattle.plai_script.proofs.Touched.{touches_one, others_after, others_without_clauses}
use Rattle.plai_script.proofs.change.drop_all.Goals as goal

pub returns-clause-touched : goal.returns-clause-touched
returns-clause-touched c =
    let pred = c.in_ok-pred.pred in
    let p = c.args.program.now in
    touches_one pred c.in_ok-copy.field-0 c.args.touched.now.keys c.touch.new.touched.keys p c.clear.new.self c.in_ok-copy.ensures c.in_ok-touch.ensures
    (others_after (pred ∷ []) p c.clear.new.self (without_clauses p pred) c.clear.ensures (others_without_clauses p pred))
