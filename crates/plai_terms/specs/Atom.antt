-- The text of an atom, and when it needs quotes (ISO/IEC 13211-1:1995, 6.4.2, 6.4.2.1 and 7.10.5).
use Rattle.std.specs.Prelude.{ℕ, ◌+◌, ◌/◌, ◌%◌, Bool, false, ◌&&◌, ◌||◌, not, nat_lt, ◌==◌, nat_eq, if◌then◌else◌, List, [], ◌∷◌, ◌++◌, length, flat_map, codes}
use Rattle.std.specs.Char.{is_ascii_lowercase, is_ascii_alphanumeric}
use Rattle.std.specs.Cmp.Lexicographic.{pointwise}
use Rattle.std.specs.List.{list_any, list_all, starts_with}

-- a letter, a digit or `_`
abbrev pub is_alphanumeric : ℕ → Bool
is_alphanumeric byte = is_ascii_alphanumeric byte || byte == 95

-- one of the symbol characters
abbrev pub is_symbol : ℕ → Bool
is_symbol byte = list_any (λ s. s == byte) (codes "+-*/\\^<>=~:.?@#&$")

-- a lower-case letter, and then letters, digits and `_`
abbrev pub is_word : List ℕ → Bool
is_word [] = false
is_word (byte ∷ bytes) = is_ascii_lowercase byte && list_all is_alphanumeric bytes

-- symbol characters alone, and at least one
abbrev pub is_symbolic : List ℕ → Bool
is_symbolic name = not (length name == 0) && list_all is_symbol name

-- the lone dot, which ends a term, and what would begin a comment
abbrev pub is_end_or_comment : List ℕ → Bool
is_end_or_comment name = pointwise nat_eq name (codes ".") || starts_with nat_eq name (codes "/*")

-- the atoms `[]`, `!` and `;`
abbrev pub is_solo : List ℕ → Bool
is_solo name = pointwise nat_eq name (codes "[]") || pointwise nat_eq name (codes "!") || pointwise nat_eq name (codes ";")

-- the atom is read back without quotes
abbrev pub is_bare : List ℕ → Bool
is_bare name = is_word name || is_symbolic name && not (is_end_or_comment name) || is_solo name

-- a hexadecimal digit, in lower case
abbrev pub hex_digit : ℕ → ℕ
hex_digit n = if nat_lt n 10 then 48 + n else 87 + n

-- a byte by its number
abbrev pub hex_text : ℕ → List ℕ
hex_text byte = codes "\\x" ++ hex_digit (byte / 16) ∷ hex_digit (byte % 16) ∷ 92 ∷ []

-- a byte between quotes
abbrev pub escaped : ℕ → List ℕ
escaped byte =
    if byte == 39 then codes "''"
    else if byte == 92 then codes "\\\\"
    else if byte == 10 then codes "\\n"
    else if nat_lt byte 32 || byte == 127 then hex_text byte
    else byte ∷ []

-- the name between quotes
abbrev pub quoted_text : List ℕ → List ℕ
quoted_text name = 39 ∷ flat_map escaped name ++ 39 ∷ []

-- bare where the atom is read back so, and else quoted
abbrev pub atom_text : List ℕ → List ℕ
atom_text name = if is_bare name then name else quoted_text name

-- a module's or a predicate's name before `:` or `/`: quoted also where it is made of symbol characters
abbrev pub name_text : List ℕ → List ℕ
name_text name = if is_symbolic name then quoted_text name else atom_text name
