-- What is decided early, and what isn't read where it is.
use Rattle.std.specs.Prelude.{◌≡◌, ◌⊎◌, ℕ, List, IsErrAnd}
use Rattle.std.specs.declared.result.Result.{Result}
use Rattle.plai_top.specs.Outcome.{Outcome, silent, IsByWords}
use Rattle.plai_top.specs.Stops.{status_of}
use Rattle.plai_top.specs.declared.stop.Stop.{Stop}
use Rattle.plai_top.specs.declared.stop.Stop.TheVariants.{Memory}

-- what the words decide comes, unless memory runs out
abbrev pub KeepsWords : {A : Type 0} → List (List ℕ) → Result A Stop → Type 0
KeepsWords words result = (outcome : Outcome) → IsByWords words outcome →
    IsErrAnd result (λ stop. (silent (status_of stop) ≡ outcome) ⊎ (stop ≡ Memory))
