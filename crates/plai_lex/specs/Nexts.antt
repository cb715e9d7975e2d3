-- The next token of a text from a place on.
use Rattle.std.specs.Prelude.{◌≡◌, ℕ, ◌≤◌, true, Option, None, Some, Result, Ok, Err, List, length, drop}
use Rattle.plai_lex.specs.declared.fail.LexFail.{LexFail}
use Rattle.plai_lex.specs.declared.fail.LexFail.TheVariants.{Memory, At}
use Rattle.plai_lex.specs.declared.lexer.Next.{Next}
use Rattle.plai_lex.specs.Tokens.{Tokens, tokens_from, with_token, ended, failing}

abbrev pub IsNext : List ℕ → Tokens → Result (Option Next) LexFail → Type 0
IsNext text tokens (Ok (Some next)) = (next.end ≤ length text) × (tokens ≡ with_token next.token (tokens_from next.end true (drop next.end text)))
IsNext text tokens (Ok None) = tokens ≡ ended
IsNext text tokens (Err Memory) = Unit {0}
IsNext text tokens (Err (At cause at)) = tokens ≡ failing cause at
