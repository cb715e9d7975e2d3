-- Quoted tokens, their items and escapes (ISO/IEC 13211-1:1995, 6.4.2.1).
use Rattle.std.specs.Prelude.{ℕ, zero, suc, ◌+◌, Bool, cond, ◌&&◌, ◌||◌, nat_le, nat_lt, nat_eq, codes, Option, None, Some, option_map, List, [], ◌∷◌, length, drop}
use Rattle.std.specs.List.{list_any, starts_with}
use Rattle.plai_lex.specs.declared.digits.Digits.{Digits}
use Rattle.plai_lex.specs.declared.quoted.Character.{Character}
use Rattle.plai_lex.specs.declared.quoted.Item.{Item}
use Rattle.plai_lex.specs.declared.quoted.Item.TheVariants.{Close, Continuation, Code, Unclosed, Refused}
use Rattle.plai_lex.specs.declared.quoted.Body.{Body}
use Rattle.plai_lex.specs.declared.quoted.Body.TheVariants.{Closed, Broken}
use Rattle.plai_lex.specs.declared.fail.LexCause.TheVariants.{BadCharacter, OpenQuote, BadEscape}
use Rattle.plai_lex.specs.Bytes.{is_printable}
use Rattle.plai_lex.specs.Numbers.{digits_at, is_digit_of}

abbrev pub character : ℕ → ℕ → Option Character
character code len = Some (record { code = code; len = len })

-- a letter that stands for a control character, or one of the four characters that stand for themselves
abbrev pub letter_code : ℕ → Option ℕ
letter_code b =
    cond (nat_eq b 97) (Some 7) (cond (nat_eq b 98) (Some 8) (cond (nat_eq b 102) (Some 12) (cond (nat_eq b 110) (Some 10)
    (cond (nat_eq b 114) (Some 13) (cond (nat_eq b 116) (Some 9) (cond (nat_eq b 118) (Some 11)
    (cond (list_any (λ s. nat_eq s b) (codes "\\'\"`")) (Some b) None)))))))

-- an escape by digits: at least one digit, a code of at most 127, and a backslash behind the digits
abbrev pub numbered : ℕ → Digits → List ℕ → Option Character
numbered before ds text =
    cond (nat_lt 0 ds.len && nat_le ds.value 127 && starts_with nat_eq (drop ds.len text) (codes "\\"))
    (character ds.value (before + ds.len + 1)) None

-- the character of the escape whose backslash stands before the text
abbrev pub escape_at : List ℕ → Option Character
escape_at [] = None
escape_at (b ∷ bs) =
    cond (nat_eq b 120) (numbered 1 (digits_at 16 bs) bs)
    (cond (is_digit_of 8 b) (numbered 0 (digits_at 8 (b ∷ bs)) (b ∷ bs))
    (option_map (λ code. record { code = code; len = 1 }) (letter_code b)))

-- an escape as an item, with its backslash
abbrev pub escaped : Option Character → Item
escaped None = Refused BadEscape
escaped (Some c) = Code (record { code = c.code; len = 1 + c.len })

-- what may stand for itself between these quotes; bytes from 128 only between single quotes
abbrev pub is_plain : ℕ → ℕ → Bool
is_plain quote b = is_printable b || nat_eq b 9 || (nat_le 128 b && nat_eq quote 39)

-- what stands at a place between two quotes
abbrev pub item_at : ℕ → List ℕ → Item
item_at quote [] = Unclosed
item_at quote (b ∷ bs) =
    cond (nat_eq b quote) (cond (starts_with nat_eq bs (quote ∷ [])) (Code (record { code = quote; len = 2 })) Close)
    (cond (nat_eq b 92) (cond (starts_with nat_eq bs (codes "\n")) Continuation (escaped (escape_at bs)))
    (cond (nat_eq b 10) Unclosed
    (cond (is_plain quote b) (Code (record { code = b; len = 1 })) (Refused BadCharacter))))

-- a token with one more code before the others
abbrev pub preceded : ℕ → Body → Body
preceded code (Closed codes len) = Closed (code ∷ codes) len
preceded code (Broken cause at) = Broken cause at

-- a token from an item on, which stands so many bytes behind the token's first
abbrev pub with_item : Item → ℕ → (ℕ → Body) → Body
with_item Close at rest = Closed [] (at + 1)
with_item Continuation at rest = rest 2
with_item (Code c) at rest = preceded c.code (rest c.len)
with_item Unclosed at rest = Broken OpenQuote 0
with_item (Refused cause) at rest = Broken cause at

-- item by item up to the closing quote or the first failure; a text has no more items than bytes, so its length is bound enough
abbrev pub quoted_within : ℕ → ℕ → ℕ → List ℕ → Body
quoted_within zero quote at text = Broken OpenQuote 0
quoted_within (suc bound) quote at text =
    with_item (item_at quote text) at (λ len. quoted_within bound quote (at + len) (drop len text))

-- the quoted token of what is left of it at a place behind its opening quote
abbrev pub quoted_from : ℕ → ℕ → List ℕ → Body
quoted_from quote at text = quoted_within (length text) quote at text
