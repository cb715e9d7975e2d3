use Rattle.std.proofs.Common.{◌≡◌}
use Rattle.plai_sld.specs.Renaming.{raising}
use Rattle.plai_sld.proofs.terms.raising.Given as goal

abbrev pub invariant-loop-variable : goal.invariant-loop-variable
invariant-loop-variable l = l.pairs.items ≡ raising l.number l.variable
