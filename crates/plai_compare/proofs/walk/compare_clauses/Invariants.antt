use Rattle.std.specs.Prelude.{All}
use Rattle.plai_compare.specs.Known.{IsPair}
use Rattle.plai_compare.proofs.walk.compare_clauses.Given as goal

abbrev pub invariant-each_clause : goal.invariant-each_clause
invariant-each_clause g l = All (IsPair (g.D.Domain.plain l.domain) g.D.Domain.value_of) l.values.items
