-- What an operation that forms sets may answer: what it gives, or the place of the first set that is too large.
use Rattle.std.specs.Prelude.{◌≡◌, ℕ, ◌+◌, nat_lt, if◌then◌else◌, List, [], ◌∷◌, Option, None, Some, IsSome, Result, Ok, Err}
use Rattle.plai_domain.specs.declared.dom_fail.DomFail.{DomFail}
use Rattle.plai_domain.specs.declared.dom_fail.DomFail.TheVariants.{Memory, Over}
use Rattle.plai_domain.specs.Plain.{Formed}

-- the most groups of a set
abbrev pub most_groups : ℕ
most_groups = 65536

-- the number of the first size over the limit, where the first of the list is number n
abbrev pub too_large_from : ℕ → List ℕ → Option ℕ
too_large_from n [] = None
too_large_from n (size ∷ sizes) = if nat_lt most_groups size then Some n else too_large_from (n + 1) sizes

-- the place, from 1, of the first set that is too large
abbrev pub too_large : List ℕ → Option ℕ
too_large sizes = too_large_from 1 sizes

-- some set is too large
abbrev pub SomeTooLarge : List ℕ → Type 0
SomeTooLarge sizes = IsSome (too_large sizes)

-- An answer gives what the plain operation gives, and no set was too large; `Over` names the first set that was.
-- Want of memory is free.
abbrev pub IsOutcome : {V A : Type 0} → (V → A) → Formed A → Result V DomFail → Type 0
IsOutcome view formed (Ok v) = (too_large formed.sizes ≡ None) × (view v ≡ formed.value)
IsOutcome view formed (Err Memory) = Unit {0}
IsOutcome view formed (Err (Over place)) = too_large formed.sizes ≡ Some place
