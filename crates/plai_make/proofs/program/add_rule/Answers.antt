use Rattle.std.proofs.Common.{sym, subst}
use Rattle.plai_clauses.specs.WellFormed.{IsWellFormedClause}
use Rattle.plai_make.proofs.Formed.{rule_formed}
use Rattle.plai_make.proofs.program.add_rule.Goals as goal

pub add_clause-requires-clause-clause : goal.add_clause-requires-clause-clause
add_clause-requires-clause-clause c = subst IsWellFormedClause (sym c.in_ok-rule.ensures) (rule_formed c.args.number c.args.first c.args.second)
