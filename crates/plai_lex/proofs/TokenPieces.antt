-- Tokens piece by piece.
use Rattle.std.proofs.Common.{◌≡◌, ℕ, zero, suc, ◌+◌, ◌≤◌, ◌^◌, Bool, true, false, cond, not, ◌&&◌, ◌||◌, nat_eq, nat_lt, codes, pos, Option, None, Some}
use Rattle.std.proofs.Common.{List, [], ◌∷◌, length, drop, refl, ap, arith, length-drop, ◌∙◌, sym, subst, take_while}
use Rattle.std.specs.List.{starts_with, prefix_len}
use Rattle.std.proofs.lemmas.List.{drop-drop}
use Rattle.plai_lex.specs.declared.token.TokenKind.{TokenKind}
use Rattle.plai_lex.specs.declared.token.TokenKind.TheVariants.{Name, Quoted, Text, Var, Int, Open, Close, OpenList, CloseList, Comma, Bar, End}
use Rattle.plai_lex.specs.declared.fail.LexCause.{LexCause}
use Rattle.plai_lex.specs.declared.fail.LexCause.TheVariants.{NumberTooLarge, BadCharacter, OpenComment, BadEscape}
use Rattle.plai_lex.specs.declared.digits.Digits.{Digits}
use Rattle.plai_lex.specs.declared.quoted.Character.{Character}
use Rattle.plai_lex.specs.declared.quoted.Item.{Item}
use Rattle.plai_lex.specs.declared.quoted.Item.TheVariants.{Close, Continuation, Code, Unclosed, Refused}
use Rattle.plai_lex.specs.declared.quoted.Body.{Body}
use Rattle.plai_lex.specs.declared.quoted.Body.TheVariants.{Closed, Broken}
use Rattle.plai_lex.specs.declared.piece.Piece.{Piece}
use Rattle.plai_lex.specs.declared.piece.Piece.TheVariants.{Nothing, Gap, Found, Failed}
use Rattle.plai_lex.specs.Bytes.{is_small_letter, is_capital, is_alphanumeric, is_symbol, is_layout}
use Rattle.plai_lex.specs.Numbers.{digits_at, is_digit_of}
use Rattle.plai_lex.specs.Quoted.{item_at, with_item, preceded, quoted_within}
use Rattle.plai_lex.specs.Pieces.{is_based, ends, comment, close_len, number, coded, character_at, integer_at, quoted, longest, single_at, token_at, piece_at}
use Rattle.plai_lex.specs.Tokens.{Tokens, IsWritten, with_token, with_piece, tokens_within, tokens_from, tokens_of}

-- layout, a comment or a token has a byte at least
abbrev Long : Piece → Type 0
Long Nothing = Unit {0}
Long (Gap len) = 1 ≤ len
Long (Found kind len) = 1 ≤ len
Long (Failed cause at) = Unit {0}

-- a token's integer is not negative
abbrev Written : Piece → Type 0
Written Nothing = Unit {0}
Written (Gap len) = Unit {0}
Written (Found kind len) = IsWritten kind
Written (Failed cause at) = Unit {0}

record IsLong (piece : Piece) : Type 0 where
  long : Long piece
  written : Written piece

found : (kind : TokenKind) (len : ℕ) → IsWritten kind → 1 ≤ len → IsLong (Found kind len)
found kind len w h = record { long = h; written = w }

gap : (len : ℕ) → 1 ≤ len → IsLong (Gap len)
gap len h = record { long = h; written = tt }

one : (kind : TokenKind) → IsWritten kind → IsLong (Found kind 1)
one kind w = found kind 1 w (omega arith)

failed : (cause : LexCause) (at : ℕ) → IsLong (Failed cause at)
failed cause at = record { long = tt; written = tt }

either : (b : Bool) {x y : Piece} → IsLong x → IsLong y → IsLong (cond b x y)
either true p q = p
either false p q = q

under : (b : Bool) {x y : Piece} → (b ≡ true → IsLong x) → IsLong y → IsLong (cond b x y)
under true p q = p refl
under false p q = q

comment-IsLong : (o : Option ℕ) → IsLong (comment o)
comment-IsLong None = failed OpenComment 0
comment-IsLong (Some len) = gap (2 + len) (omega arith)

number-IsLong : (before : ℕ) (ds : Digits) → 1 ≤ before + ds.len → IsLong (number before ds)
number-IsLong before ds h = either (nat_lt ds.value (2 ^ 127)) (found (Int (pos ds.value)) _ tt h) (failed NumberTooLarge 0)

coded-IsLong : (o : Option Character) → IsLong (coded o)
coded-IsLong None = failed BadEscape 0
coded-IsLong (Some c) = found (Int (pos c.code)) _ tt (omega arith)

integer-IsLong : (b : ℕ) (bs : List ℕ) → is_digit_of 10 b ≡ true → IsLong (integer_at (b ∷ bs))
integer-IsLong b bs digit =
    let decimal : 1 ≤ 0 + (digits_at 10 (b ∷ bs)).len = rw digit (omega arith) in
    let based : (base : ℕ) → IsLong (number 2 (digits_at base (drop 2 (b ∷ bs)))) = λ base. number-IsLong 2 (digits_at base (drop 2 (b ∷ bs))) (omega arith) in
    either (starts_with nat_eq (b ∷ bs) (codes "0'")) (coded-IsLong (character_at (drop 2 (b ∷ bs))))
    (either (is_based (codes "0x") 16 (b ∷ bs)) (based 16) (either (is_based (codes "0o") 8 (b ∷ bs)) (based 8)
    (either (is_based (codes "0b") 2 (b ∷ bs)) (based 2) (number-IsLong 0 (digits_at 10 (b ∷ bs)) decimal))))

abbrev LongBody : Body → Type 0
LongBody (Closed codes len) = 1 ≤ len
LongBody (Broken cause at) = Unit {0}

preceded-LongBody : (code : ℕ) (body : Body) → LongBody body → LongBody (preceded code body)
preceded-LongBody code (Closed codes len) h = h
preceded-LongBody code (Broken cause at) h = tt

with_item-LongBody : (item : Item) (at : ℕ) (f : ℕ → Body) → ((k : ℕ) → LongBody (f k)) → LongBody (with_item item at f)
with_item-LongBody Close at f each = omega arith
with_item-LongBody Continuation at f each = each 2
with_item-LongBody (Code c) at f each = preceded-LongBody c.code (f c.len) (each c.len)
with_item-LongBody Unclosed at f each = tt
with_item-LongBody (Refused cause) at f each = tt

quoted_within-LongBody : (bound quote at : ℕ) (text : List ℕ) → LongBody (quoted_within bound quote at text)
quoted_within-LongBody zero quote at text = tt
quoted_within-LongBody (suc bound) quote at text =
    with_item-LongBody (item_at quote text) at _ (λ k. quoted_within-LongBody bound quote (at + k) (drop k text))

named : (b : Bool) (codes : List ℕ) → IsWritten (cond b (Quoted codes) (Text codes))
named true codes = tt
named false codes = tt

quoted-IsLong : (quote : ℕ) (body : Body) → LongBody body → IsLong (quoted quote body)
quoted-IsLong quote (Closed codes len) h = found _ len (named (nat_eq quote 39) codes) h
quoted-IsLong quote (Broken cause at) h = failed cause at

longest-IsLong : (kind : List ℕ → TokenKind) (class : ℕ → Bool) (b : ℕ) (bs : List ℕ) → ((codes : List ℕ) → IsWritten (kind codes))
    → IsLong (longest kind class b bs)
longest-IsLong kind class b bs w = found (kind (b ∷ take_while class bs)) _ (w _) (omega arith)

single-IsLong : (b : ℕ) → IsLong (single_at b)
single-IsLong b =
    either (nat_eq b 40) (one Open tt) (either (nat_eq b 41) (one Close tt) (either (nat_eq b 91) (one OpenList tt) (either (nat_eq b 93) (one CloseList tt)
    (either (nat_eq b 44) (one Comma tt) (either (nat_eq b 124) (one Bar tt)
    (either (nat_eq b 33 || nat_eq b 59) (one (Name (b ∷ [])) tt) (failed BadCharacter 0)))))))

token-IsLong : (b : ℕ) (bs : List ℕ) → IsLong (token_at b bs)
token-IsLong b bs =
    either (is_small_letter b) (longest-IsLong Name is_alphanumeric b bs (λ c. tt)) (either (is_capital b) (longest-IsLong Var is_alphanumeric b bs (λ c. tt))
    (under (is_digit_of 10 b) (integer-IsLong b bs)
    (either (is_symbol b) (either (nat_eq b 46 && nat_eq (prefix_len is_symbol bs) 0 && ends bs) (one End tt) (longest-IsLong Name is_symbol b bs (λ c. tt)))
    (either (nat_eq b 39 || nat_eq b 34) (quoted-IsLong b _ (quoted_within-LongBody (length bs) b 1 bs)) (single-IsLong b)))))

piece-IsLong : (text : List ℕ) → IsLong (piece_at text)
piece-IsLong [] = record { long = tt; written = tt }
piece-IsLong (b ∷ bs) =
    either (is_layout b) (gap 1 (omega arith)) (either (nat_eq b 37) (gap (1 + prefix_len (λ c. not (nat_eq c 10)) bs) (omega arith))
    (either (starts_with nat_eq (b ∷ bs) (codes "/*")) (comment-IsLong (close_len (drop 1 bs))) (token-IsLong b bs)))

-- what is behind a piece is asked for at one byte at least
with_piece-same : (piece : Piece) (at : ℕ) (tight : Bool) (f g : ℕ → Bool → Tokens) → IsLong piece
    → ((k : ℕ) (b : Bool) → 1 ≤ k → f k b ≡ g k b) → with_piece piece at tight f ≡ with_piece piece at tight g
with_piece-same Nothing at tight f g long same = refl
with_piece-same (Gap len) at tight f g long same = same len false long.long
with_piece-same (Found kind len) at tight f g long same = ap (with_token _) (same len true long.long)
with_piece-same (Failed cause place) at tight f g long same = refl

-- any bound from the length on gives the same
within-same : (n m at : ℕ) (tight : Bool) (text : List ℕ) → length text ≤ n → length text ≤ m → tokens_within n at tight text ≡ tokens_within m at tight text
within-same zero zero at tight text p q = refl
within-same zero (suc m) at tight [] p q = refl
within-same zero (suc m) at tight (b ∷ bs) p q = absurd (omega arith)
within-same (suc n) zero at tight [] p q = refl
within-same (suc n) zero at tight (b ∷ bs) p q = absurd (omega arith)
within-same (suc n) (suc m) at tight text p q =
    with_piece-same (piece_at text) at tight _ _ (piece-IsLong text) (λ k b one. within-same n m (at + k) b (drop k text)
    (omega (arith, length-drop k text)) (omega (arith, length-drop k text)))

-- one piece and what is behind it
tokens_from-piece : (at : ℕ) (tight : Bool) (text : List ℕ)
    → tokens_from at tight text ≡ with_piece (piece_at text) at tight (λ k b. tokens_from (at + k) b (drop k text))
tokens_from-piece at tight [] = refl
tokens_from-piece at tight (b ∷ bs) =
    with_piece-same (piece_at (b ∷ bs)) at tight _ _ (piece-IsLong (b ∷ bs))
    (λ k t one. within-same (length bs) (length (drop k (b ∷ bs))) (at + k) t (drop k (b ∷ bs))
    (omega (arith, length-drop k (b ∷ bs))) (omega arith))

with_piece-behind : (piece : Piece) (at : ℕ) (tight : Bool) (text : List ℕ)
    → with_piece piece at tight (λ k b. tokens_from (at + k) b (drop k (drop at text)))
    ≡ with_piece piece at tight (λ k b. tokens_from (at + k) b (drop (at + k) text))
with_piece-behind Nothing at tight text = refl
with_piece-behind (Gap len) at tight text = ap (tokens_from (at + len) false) (drop-drop len at text)
with_piece-behind (Found kind len) at tight text =
    ap (λ t. with_token (record { kind = kind; at = at; tight = tight }) (tokens_from (at + len) true t)) (drop-drop len at text)
with_piece-behind (Failed cause place) at tight text = refl

-- the same at a place of a text
pub piece_is : (at : ℕ) (tight : Bool) (text : List ℕ) (piece : Piece) → piece ≡ piece_at (drop at text)
    → tokens_from at tight (drop at text) ≡ with_piece piece at tight (λ k b. tokens_from (at + k) b (drop (at + k) text))
piece_is at tight text piece is =
    tokens_from-piece at tight (drop at text) ∙ rw (← is) (with_piece-behind piece at tight text)

-- a gap is skipped
pub skips : (at len : ℕ) (tight : Bool) (text : List ℕ) (piece : Piece) (whole : Tokens) → piece ≡ piece_at (drop at text) → piece ≡ Gap len
    → tokens_from at tight (drop at text) ≡ whole → tokens_from (at + len) false (drop (at + len) text) ≡ whole
skips at len tight text piece whole is gap-is same = rw (piece_is at tight text piece is, gap-is) at same

-- a token is given
pub gives : (at len : ℕ) (tight : Bool) (kind : TokenKind) (text : List ℕ) (piece : Piece) (whole : Tokens) → piece ≡ piece_at (drop at text)
    → piece ≡ Found kind len
    → tokens_from at tight (drop at text) ≡ whole
    → whole ≡ with_token (record { kind = kind; at = at; tight = tight }) (tokens_from (at + len) true (drop (at + len) text))
gives at len tight kind text piece whole is found-is same = rw (piece_is at tight text piece is, found-is) at (sym same)

-- the integer of a token that is given is not negative
pub writes : (at len : ℕ) (kind : TokenKind) (text : List ℕ) (piece : Piece) → piece ≡ piece_at (drop at text) → piece ≡ Found kind len → IsWritten kind
writes at len kind text piece is found-is =
    let P : Piece → Type 0 = λ p. Written p in subst P (sym is ∙ found-is) (piece-IsLong (drop at text)).written

-- no more tokens than pieces
with_piece-few : (piece : Piece) (at bound : ℕ) (tight : Bool) (f : ℕ → Bool → Tokens) → ((k : ℕ) (b : Bool) → length (f k b).tokens ≤ bound)
    → length (with_piece piece at tight f).tokens ≤ suc bound
with_piece-few Nothing at bound tight f each = omega arith
with_piece-few (Gap len) at bound tight f each = omega (arith, each len false)
with_piece-few (Found kind len) at bound tight f each = omega (arith, each len true)
with_piece-few (Failed cause place) at bound tight f each = omega arith

within-few : (n at : ℕ) (tight : Bool) (text : List ℕ) → length (tokens_within n at tight text).tokens ≤ n
within-few zero at tight text = omega arith
within-few (suc n) at tight text = with_piece-few (piece_at text) at n tight _ (λ k b. within-few n (at + k) b (drop k text))

-- no more tokens than bytes
pub few : (text : List ℕ) → length (tokens_of text).tokens ≤ length text
few text = within-few (length text) 0 false text
