-- What stands at a place of a text: layout, a comment, a token or a failure (ISO/IEC 13211-1:1995, 6.4).
use Rattle.std.specs.Prelude.{ℕ, suc, ◌+◌, ◌^◌, Bool, true, cond, ◌&&◌, ◌||◌, not, nat_lt, nat_eq, codes, pos, Option, None, Some, option_map, List, [], ◌∷◌, drop, take_while}
use Rattle.std.specs.List.{prefix_len, starts_with}
use Rattle.plai_lex.specs.declared.token.TokenKind.{TokenKind}
use Rattle.plai_lex.specs.declared.token.TokenKind.TheVariants.{Name, Quoted, Var, Int, Text, Open, Close, OpenList, CloseList, Comma, Bar, End}
use Rattle.plai_lex.specs.declared.fail.LexCause.TheVariants.{BadCharacter, OpenComment, BadEscape, NumberTooLarge}
use Rattle.plai_lex.specs.declared.digits.Digits.{Digits}
use Rattle.plai_lex.specs.declared.quoted.Character.{Character}
use Rattle.plai_lex.specs.declared.quoted.Body.{Body}
use Rattle.plai_lex.specs.declared.quoted.Body.TheVariants.{Closed, Broken}
use Rattle.plai_lex.specs.declared.piece.Piece.{Piece}
use Rattle.plai_lex.specs.declared.piece.Piece.TheVariants.{Nothing, Gap, Found, Failed}
use Rattle.plai_lex.specs.Bytes.{is_small_letter, is_capital, is_alphanumeric, is_symbol, is_layout, is_printable}
use Rattle.plai_lex.specs.Numbers.{digits_at, is_digit_of}
use Rattle.plai_lex.specs.Quoted.{character, escape_at, quoted_from}

-- how many bytes stand up to and with the next "*/"
abbrev pub close_len : List ℕ → Option ℕ
close_len [] = None
close_len (b ∷ bs) = cond (starts_with nat_eq (b ∷ bs) (codes "*/")) (Some 2) (option_map suc (close_len bs))

-- a bracketed comment, of which so many bytes stand behind its "/*"
abbrev pub comment : Option ℕ → Piece
comment None = Failed OpenComment 0
comment (Some len) = Gap (2 + len)

-- the integer of some digits, before which so many bytes of the token stand
abbrev pub number : ℕ → Digits → Piece
number before ds = cond (nat_lt ds.value (2 ^ 127)) (Found (Int (pos ds.value)) (before + ds.len)) (Failed NumberTooLarge 0)

-- the character behind 0' : two quotes, an escape that gives a character, or one printable byte
abbrev pub character_at : List ℕ → Option Character
character_at [] = None
character_at (b ∷ bs) =
    cond (nat_eq b 39) (cond (starts_with nat_eq bs (codes "'")) (character 39 2) None)
    (cond (nat_eq b 92) (option_map (λ c. record { code = c.code; len = 1 + c.len }) (escape_at bs))
    (cond (is_printable b) (character b 1) None))

-- the integer of a character behind 0'
abbrev pub coded : Option Character → Piece
coded None = Failed BadEscape 0
coded (Some c) = Found (Int (pos c.code)) (2 + c.len)

-- whether the text begins with the prefix of a base and a digit of that base behind it
abbrev pub is_based : List ℕ → ℕ → List ℕ → Bool
is_based prefix base text = starts_with nat_eq text prefix && nat_lt 0 (prefix_len (is_digit_of base) (drop 2 text))

-- the integer at a place where a decimal digit stands
abbrev pub integer_at : List ℕ → Piece
integer_at text =
    cond (starts_with nat_eq text (codes "0'")) (coded (character_at (drop 2 text)))
    (cond (is_based (codes "0x") 16 text) (number 2 (digits_at 16 (drop 2 text)))
    (cond (is_based (codes "0o") 8 text) (number 2 (digits_at 8 (drop 2 text)))
    (cond (is_based (codes "0b") 2 text) (number 2 (digits_at 2 (drop 2 text)))
    (number 0 (digits_at 10 text)))))

-- what stands between single quotes is a name, what stands between double ones a text
abbrev pub quoted : ℕ → Body → Piece
quoted quote (Closed codes len) = Found (cond (nat_eq quote 39) (Quoted codes) (Text codes)) len
quoted quote (Broken cause at) = Failed cause at

-- the quoted token whose opening quote stands before the text
abbrev pub quoted_at : ℕ → List ℕ → Piece
quoted_at quote text = quoted quote (quoted_from quote 1 text)

-- a byte and all bytes of a class behind it
abbrev pub longest : (List ℕ → TokenKind) → (ℕ → Bool) → ℕ → List ℕ → Piece
longest kind class b bs = Found (kind (b ∷ take_while class bs)) (1 + prefix_len class bs)

-- layout, a comment or the end of the text
abbrev pub ends : List ℕ → Bool
ends [] = true
ends (b ∷ bs) = is_layout b || nat_eq b 37

-- a run of symbol characters: the end of a term, or a name
abbrev pub symbols_at : ℕ → List ℕ → Piece
symbols_at b bs = cond (nat_eq b 46 && nat_eq (prefix_len is_symbol bs) 0 && ends bs) (Found End 1) (longest Name is_symbol b bs)

-- a token of one byte
abbrev pub single_at : ℕ → Piece
single_at b =
    cond (nat_eq b 40) (Found Open 1) (cond (nat_eq b 41) (Found Close 1)
    (cond (nat_eq b 91) (Found OpenList 1) (cond (nat_eq b 93) (Found CloseList 1)
    (cond (nat_eq b 44) (Found Comma 1) (cond (nat_eq b 124) (Found Bar 1)
    (cond (nat_eq b 33 || nat_eq b 59) (Found (Name (b ∷ [])) 1)
    (Failed BadCharacter 0)))))))

-- the longest token whose first byte is b, the table of tokens by their first bytes
abbrev pub token_at : ℕ → List ℕ → Piece
token_at b bs =
    cond (is_small_letter b) (longest Name is_alphanumeric b bs)
    (cond (is_capital b) (longest Var is_alphanumeric b bs)
    (cond (is_digit_of 10 b) (integer_at (b ∷ bs))
    (cond (is_symbol b) (symbols_at b bs)
    (cond (nat_eq b 39 || nat_eq b 34) (quoted_at b bs)
    (single_at b)))))

-- what stands at the beginning of a text
abbrev pub piece_at : List ℕ → Piece
piece_at [] = Nothing
piece_at (b ∷ bs) =
    cond (is_layout b) (Gap 1)
    (cond (nat_eq b 37) (Gap (1 + prefix_len (λ c. not (nat_eq c 10)) bs))
    (cond (starts_with nat_eq (b ∷ bs) (codes "/*")) (comment (close_len (drop 1 bs)))
    (token_at b bs)))
