-- Classes of bytes (ISO/IEC 13211-1:1995, 6.5). Letters are those of ASCII.
use Rattle.std.specs.Prelude.{ℕ, Bool, ◌&&◌, ◌||◌, nat_le, nat_eq, codes}
use Rattle.std.specs.List.{list_any}

abbrev pub is_small_letter : ℕ → Bool
is_small_letter b = nat_le 97 b && nat_le b 122

-- what begins a variable: a capital letter or the underscore
abbrev pub is_capital : ℕ → Bool
is_capital b = (nat_le 65 b && nat_le b 90) || nat_eq b 95

abbrev pub is_decimal : ℕ → Bool
is_decimal b = nat_le 48 b && nat_le b 57

-- letters, digits and the underscore
abbrev pub is_alphanumeric : ℕ → Bool
is_alphanumeric b = is_small_letter b || is_capital b || is_decimal b

abbrev pub is_symbol : ℕ → Bool
is_symbol b = list_any (λ s. nat_eq s b) (codes "+-*/\\^<>=~:.?@#&$")

abbrev pub is_layout : ℕ → Bool
is_layout b = (nat_le 9 b && nat_le b 13) || nat_eq b 32

-- from the space to the tilde
abbrev pub is_printable : ℕ → Bool
is_printable b = nat_le 32 b && nat_le b 126
