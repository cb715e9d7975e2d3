-- The definitions on literals.
use Rattle.std.proofs.Common.{◌≡◌, refl, codes, [], ◌∷◌, true, false}
use Rattle.std.specs.Prelude.{None}
use Rattle.plai_lex.specs.declared.token.TokenKind.TheVariants.{Name, Quoted, Var, Open, Close, Comma, End}
use Rattle.plai_lex.specs.declared.fail.LexCause.TheVariants.{OpenQuote, OpenComment, BadEscape, NumberTooLarge}
use Rattle.plai_lex.specs.Tokens.{tokens_of, failing}

fact : tokens_of (codes "p(X, 'a') . ") ≡ record {
  tokens = record { kind = Name (codes "p"); at = 0; tight = false } ∷ record { kind = Open; at = 1; tight = true }
      ∷ record { kind = Var (codes "X"); at = 2; tight = true } ∷ record { kind = Comma; at = 3; tight = true }
      ∷ record { kind = Quoted (codes "a"); at = 5; tight = false } ∷ record { kind = Close; at = 8; tight = true }
      ∷ record { kind = End; at = 10; tight = false } ∷ [];
  failure = None;
}
fact = refl

open_comment : tokens_of (codes "/*/") ≡ failing OpenComment 0
open_comment = refl

open_quote : tokens_of (codes " 'ab") ≡ failing OpenQuote 1
open_quote = refl

bad_escape : tokens_of (codes "'a\\q'") ≡ failing BadEscape 2
bad_escape = refl

too_large : tokens_of (codes "0x80000000000000000000000000000000") ≡ failing NumberTooLarge 0
too_large = refl
