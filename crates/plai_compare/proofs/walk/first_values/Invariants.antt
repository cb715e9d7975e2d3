use Rattle.std.specs.Prelude.{All}
use Rattle.plai_compare.specs.Known.{IsPair}
use Rattle.plai_compare.proofs.walk.first_values.Given as goal

abbrev pub invariant-loop-arity : goal.invariant-loop-arity
invariant-loop-arity g l = All (IsPair (g.D.Domain.plain l.domain) g.D.Domain.value_of) l.values.items
