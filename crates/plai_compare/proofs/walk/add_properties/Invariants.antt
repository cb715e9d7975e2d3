use Rattle.std.specs.Prelude.{All}
use Rattle.plai_compare.specs.Known.{IsPair}
use Rattle.plai_compare.proofs.walk.add_properties.Given as goal

abbrev pub invariant-loop-property : goal.invariant-loop-property
invariant-loop-property g l = All (IsPair (g.D.Domain.plain l.domain) g.D.Domain.value_of) l.values.items
