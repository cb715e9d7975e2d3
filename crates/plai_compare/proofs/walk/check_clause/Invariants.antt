use Rattle.plai_compare.specs.Known.{IsPlace}
use Rattle.plai_compare.proofs.walk.check_clause.Given as goal

abbrev pub invariant-literals : goal.invariant-literals
invariant-literals g l = IsPlace (g.D.Domain.plain l.domain) g.D.Domain.state_of l.at
