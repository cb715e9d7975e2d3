use Rattle.std.proofs.Common.{◌∙◌, ap, sym, ◌≡◌, [], Ok}
use Rattle.plai_clauses.specs.Bodies.{behind}
use Rattle.plai_clauses.specs.ClauseOf.{body_of, goals_of}
use Rattle.plai_clauses.proofs.PutLiterals.{widest_few}
use Rattle.plai_clauses.proofs.from_term.rule.Goals as goal

pub within_slots-requires-clause-narrow : goal.within_slots-requires-clause-narrow
within_slots-requires-clause-narrow c =
    let e : behind [] (body_of c.args.module.now c.args.imports.now (goals_of c.args.body.now)) ≡ Ok c.push_goals.new.body.items =
    ap (λ ls. behind ls (body_of c.args.module.now c.args.imports.now (goals_of c.args.body.now))) (sym c.new-literals.ensures.items)
    ∙ c.in_ok-push_goals.ensures in
    widest_few c.args.module.now c.args.imports.now (goals_of c.args.body.now) c.push_goals.new.body.items e
