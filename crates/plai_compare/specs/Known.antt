-- Values and states that operations are tried at (Muthukumar and Hermenegildo 1992).
use Rattle.std.specs.Prelude.{◌≡◌, ℕ}
use Rattle.plai_terms.specs.declared.abs.Abs.{Abs}
use Rattle.plai_domain.specs.Plain.{StateView, PlainDomain}
use Rattle.plai_domain.specs.Conditions.{IsValue, IsState}
use Rattle.plai_compare.specs.declared.known.Known.{Known}
use Rattle.plai_compare.specs.declared.known.Reached.{Reached}
use Rattle.plai_compare.specs.declared.known.Pair.{Pair}
use Rattle.plai_compare.specs.declared.known.Place.{Place}

-- the value is one of its number of arguments
abbrev pub IsKnown : {V : Type 0} → PlainDomain → (V → Abs) → Known V → Type 0
IsKnown p value_of known = IsValue p known.arity (value_of known.value)

-- a state of a clause of n arguments and v variables
pub record IsStateOf (p : PlainDomain) (n v : ℕ) (s : StateView) : Type 0 where
  pub state : IsState p s
  pub arity : s.arity ≡ n
  pub variables : s.variables ≡ v

-- the state is one of its number of arguments and variables
abbrev pub IsReached : {S : Type 0} → PlainDomain → (S → StateView) → Reached S → Type 0
IsReached p state_of at = IsStateOf p at.arity at.variables (state_of at.state)

-- the same of a value or a state beside the second program's
abbrev pub IsPair : {V : Type 0} → PlainDomain → (V → Abs) → Pair V → Type 0
IsPair p value_of pair = IsKnown p value_of pair.known

abbrev pub IsPlace : {S P : Type 0} → PlainDomain → (S → StateView) → Place S P → Type 0
IsPlace p state_of place = IsReached p state_of place.at
