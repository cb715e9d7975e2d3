-- What calls may answer where a definition gives this: just that, or that memory is wanting.
use Rattle.std.specs.Prelude.{◌≡◌, ℕ, Result, Ok, Err}
use Rattle.plai_sources.specs.Items as source
use Rattle.plai_sources.specs.declared.cause.ItemsFail.{ItemsFail}
use Rattle.plai_sources.specs.declared.cause.ItemsFail.TheVariants as items_fail
use Rattle.plai_modules.specs.Loading.{Refusal}
use Rattle.plai_modules.specs.declared.fail.LoadFail.{LoadFail}
use Rattle.plai_modules.specs.declared.fail.LoadFail.TheVariants.{Memory, Refused}

abbrev pub Answers : {A : Type 0} → Result A Refusal → Result A LoadFail → Type 0
Answers answer (Ok x) = answer ≡ Ok x
Answers answer (Err Memory) = Unit {0}
Answers answer (Err (Refused file term cause)) = answer ≡ Err (record { file = file; term = term; cause = cause })

-- a call that leaves a value changed
abbrev pub Leaves : {A : Type 0} → Result A source.Refusal → A → Result (Unit {0}) ItemsFail → Type 0
Leaves answer after (Ok _) = answer ≡ Ok after
Leaves answer after (Err items_fail.Memory) = Unit {0}
Leaves answer after (Err (items_fail.Refused term cause)) = answer ≡ Err (source.refusal term cause)

-- the failure of a file, as one of the file of this number
abbrev pub fail_in : ℕ → ItemsFail → LoadFail
fail_in number items_fail.Memory = Memory
fail_in number (items_fail.Refused term cause) = Refused number term cause
