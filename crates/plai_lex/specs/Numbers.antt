-- The digits of a base (ISO/IEC 13211-1:1995, 6.4.4).
use Rattle.std.specs.Prelude.{ℕ, ◌+◌, ◌*◌, ◌^◌, Bool, nat_lt, List, [], ◌∷◌, length, take_while}
use Rattle.std.specs.List.{prefix_len}
use Rattle.std.specs.Char.{digit_value}
use Rattle.plai_lex.specs.declared.digits.Digits.{Digits}

-- a digit of a base; from ten on the digits are the letters, small or capital
abbrev pub is_digit_of : ℕ → ℕ → Bool
is_digit_of base b = nat_lt (digit_value b) base

-- the number that digits write in a base, the first digit weighing most
abbrev pub value_of : ℕ → List ℕ → ℕ
value_of base [] = 0
value_of base (d ∷ ds) = digit_value d * base ^ length ds + value_of base ds

-- the digits of a base at the beginning of a text: the number that they write, and how many they are
abbrev pub digits_at : ℕ → List ℕ → Digits
digits_at base text = record { value = value_of base (take_while (is_digit_of base) text); len = prefix_len (is_digit_of base) text }
