-- Work in steps of which any may be refused: the first refusal counts.
use Rattle.std.specs.Prelude.{Result, Ok, Err, List, [], ◌∷◌}

-- what is done with a value, unless it was refused
abbrev pub and_then : {A B E : Type 0} → Result A E → (A → Result B E) → Result B E
and_then (Ok x) next = next x
and_then (Err e) next = Err e

-- the items taken one by one, each with what the ones before gave
abbrev pub steps : {A B E : Type 0} → (A → B → Result A E) → A → List B → Result A E
steps step before [] = Ok before
steps step before (x ∷ xs) = and_then (step before x) (λ behind. steps step behind xs)
