-- The tokens of a text (ISO/IEC 13211-1:1995, 6.4): at each place the longest one, layout and comments between them skipped.
use Rattle.std.specs.Prelude.{◌≡◌, ℕ, zero, suc, ◌+◌, Bool, true, false, Option, None, Some, Result, Ok, Err, List, [], ◌∷◌, ◌++◌, length, drop}
use Rattle.std.specs.Int.{IsNonNegative}
use Rattle.plai_lex.specs.declared.token.TokenKind.{TokenKind}
use Rattle.plai_lex.specs.declared.token.TokenKind.TheVariants.{Int}
use Rattle.plai_lex.specs.declared.token.Token.{Token}
use Rattle.plai_lex.specs.declared.fail.LexCause.{LexCause}
use Rattle.plai_lex.specs.declared.fail.LexFail.{LexFail}
use Rattle.plai_lex.specs.declared.fail.LexFail.TheVariants.{Memory, At}
use Rattle.plai_lex.specs.declared.piece.Piece.{Piece}
use Rattle.plai_lex.specs.declared.piece.Piece.TheVariants.{Nothing, Gap, Found, Failed}
use Rattle.plai_lex.specs.Pieces.{piece_at}

-- why a text has no token at a place
pub record Failure : Type 0 where
  pub cause : LexCause
  pub at : ℕ

-- tokens in order, and the first failure behind them; where there is none, the text ends behind them
pub record Tokens : Type 0 where
  pub tokens : List Token
  pub failure : Option Failure

abbrev pub ended : Tokens
ended = record { tokens = []; failure = None }

abbrev pub failing : LexCause → ℕ → Tokens
failing cause at = record { tokens = []; failure = Some (record { cause = cause; at = at }) }

-- one more token before the others
abbrev pub with_token : Token → Tokens → Tokens
with_token token rest = record { tokens = token ∷ rest.tokens; failure = rest.failure }

-- the tokens from a piece on; `tight` says whether a token ends at its place
abbrev pub with_piece : Piece → ℕ → Bool → (ℕ → Bool → Tokens) → Tokens
with_piece Nothing at tight rest = ended
with_piece (Gap len) at tight rest = rest len false
with_piece (Found kind len) at tight rest = with_token (record { kind = kind; at = at; tight = tight }) (rest len true)
with_piece (Failed cause place) at tight rest = failing cause (at + place)

-- piece by piece; a text has no more pieces than bytes, so its length is bound enough
abbrev pub tokens_within : ℕ → ℕ → Bool → List ℕ → Tokens
tokens_within zero at tight text = ended
tokens_within (suc bound) at tight text =
    with_piece (piece_at text) at tight (λ len token. tokens_within bound (at + len) token (drop len text))

-- the tokens of what is left of a text at a place
abbrev pub tokens_from : ℕ → Bool → List ℕ → Tokens
tokens_from at tight text = tokens_within (length text) at tight text

-- the tokens of a text
abbrev pub tokens_of : List ℕ → Tokens
tokens_of text = tokens_from 0 false text

-- an integer that is written as a token is not negative
abbrev pub IsWritten : TokenKind → Type 0
IsWritten (Int n) = IsNonNegative n
IsWritten _ = Unit {0}

-- several tokens before the others
abbrev pub with_tokens : List Token → Tokens → Tokens
with_tokens tokens rest = record { tokens = tokens ++ rest.tokens; failure = rest.failure }

-- what a call for the next token answers to the tokens that are left, and which it leaves
abbrev pub Answers : Tokens → Tokens → Result (Option Token) LexFail → Type 0
Answers old new (Ok (Some token)) = old ≡ with_token token new
Answers old new (Ok None) = (old ≡ ended) × (new ≡ old)
Answers old new (Err Memory) = new ≡ old
Answers old new (Err (At cause at)) = (old ≡ failing cause at) × (new ≡ old)

-- calls one after the other give these tokens, and leave the last ones
abbrev pub Gives : Tokens → List Token → Tokens → Type 0
Gives old [] new = new ≡ old
Gives old (token ∷ tokens) new = (rest : Tokens) × (old ≡ with_token token rest) × Gives rest tokens new
