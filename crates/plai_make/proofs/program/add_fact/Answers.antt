use Rattle.std.proofs.Common.{sym, subst}
use Rattle.plai_clauses.specs.WellFormed.{IsWellFormedClause}
use Rattle.plai_make.proofs.Formed.{fact_formed}
use Rattle.plai_make.proofs.program.add_fact.Goals as goal

pub add_clause-requires-clause-clause : goal.add_clause-requires-clause-clause
add_clause-requires-clause-clause c = subst IsWellFormedClause (sym c.in_ok-fact.ensures) (fact_formed c.args.number)
