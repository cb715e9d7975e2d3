-- Which texts are numbers of the command line: one to six decimal digits (POSIX.1-2017, Base Definitions, 12.1).
use Rattle.std.specs.Prelude.{ℕ, List, [], ◌∷◌, Bool, Option, None, Some, ◌&&◌, ◌+◌, ◌-◌, ◌*◌, nat_le, length, if◌then◌else◌}
use Rattle.std.specs.List.{list_all}

-- a decimal digit
abbrev pub is_digit : ℕ → Bool
is_digit byte = nat_le 48 byte && nat_le byte 57

-- one to six decimal digits
unfoldable pub is_short_numeral : List ℕ → Bool
is_short_numeral text = nat_le 1 (length text) && nat_le (length text) 6 && list_all is_digit text

-- the number that digits write behind those of a number
unfoldable pub decimal : ℕ → List ℕ → ℕ
decimal before [] = before
decimal before (digit ∷ digits) = decimal (10 * before + (digit - 48)) digits

-- the number from 1 to a greatest one that a text writes
unfoldable pub number : ℕ → List ℕ → Option ℕ
number most text =
    if is_short_numeral text && nat_le 1 (decimal 0 text) && nat_le (decimal 0 text) most
    then Some (decimal 0 text) else None
