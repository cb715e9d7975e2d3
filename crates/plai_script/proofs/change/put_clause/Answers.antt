use Rattle.std.proofs.Common.{rules, [], ◌∷◌}
use Rattle.plai_clauses.specs.Program.{pred_of, with_clause_of}
use Rattle.plai_script.proofs.Touched.{touches_one, others_after, others_with_clause}
use Rattle.plai_script.proofs.change.put_clause.Goals as goal

pub returns-clause-touched : goal.returns-clause-touched
returns-clause-touched c =
    let m = c.args.module.now in
    let pred = pred_of m c.args.clause in
    let p = c.args.program.now in
    touches_one pred c.in_ok-make_pred.field-0 c.args.touched.now.keys c.touch.new.touched.keys p c.add_clause.new.self (search rules) c.in_ok-touch.ensures
    (others_after (pred ∷ []) p c.add_clause.new.self (with_clause_of p m c.args.clause) c.in_ok-add_clause.ensures.ok (others_with_clause p m c.args.clause))
