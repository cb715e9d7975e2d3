-- What dealing with one equation does to the others and to the bindings.
use Rattle.std.specs.Prelude.{◌≡◌}
use Rattle.plai_terms.specs.Unification.{Equations, Bindings, Go, Stop, moved}
use Rattle.plai_terms.specs.declared.moves.Move.{Move}
use Rattle.plai_terms.specs.declared.outcome.Outcome.TheVariants as outcomes
use Rattle.plai_terms.specs.declared.solve.Progress.{Progress}
use Rattle.plai_terms.specs.declared.solve.Progress.TheVariants.{Done, Clash, Occurs}

abbrev pub IsProgress : Move → Progress → Equations → Bindings → Equations → Bindings → Type 0
IsProgress m Done es bs fs cs = moved m es bs ≡ Go fs cs
IsProgress m Clash es bs fs cs = moved m es bs ≡ Stop outcomes.Clash
IsProgress m Occurs es bs fs cs = moved m es bs ≡ Stop outcomes.Occurs
