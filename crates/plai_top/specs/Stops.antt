-- What a stop says of a call.
use Rattle.std.specs.Prelude.{ℕ, ◌≡◌, ◌⊎◌}
use Rattle.plai_top.specs.declared.stop.Stop.{Stop}
use Rattle.plai_top.specs.declared.stop.Stop.TheVariants.{NoCommand, TooLarge, ReadFault, WriteFault, Memory}

-- the status that a call ends with
abbrev pub status_of : Stop → ℕ
status_of NoCommand = 2
status_of TooLarge = 4
status_of ReadFault = 5
status_of WriteFault = 6
status_of Memory = 7

-- a read failed, or memory ran out
abbrev pub IsReadEnd : Stop → Type 0
IsReadEnd stop = (stop ≡ ReadFault) ⊎ (stop ≡ Memory)
