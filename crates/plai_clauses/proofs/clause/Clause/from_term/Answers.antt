use Rattle.std.proofs.Common.{rules}
use Rattle.plai_clauses.proofs.Formed.{answer_formed}
use Rattle.plai_clauses.proofs.clause.Clause.from_term.Goals as goal

pub returns-in-Some-clause-well_formed : goal.returns-in-Some-clause-well_formed
returns-in-Some-clause-well_formed c =
    answer_formed c.args.module.now c.args.imports.now c.args.term.now c.rule.result c.requires.readable (search rules)

pub returns-in-None-clause-well_formed : goal.returns-in-None-clause-well_formed
returns-in-None-clause-well_formed c =
    answer_formed c.args.module.now c.args.imports.now c.args.term.now c.without_body.result c.requires.readable (search rules)
