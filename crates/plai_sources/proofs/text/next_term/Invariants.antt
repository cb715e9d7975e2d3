use Rattle.std.proofs.Common.{◌≡◌, length}
use Rattle.std.specs.Prelude.{All}
use Rattle.plai_lex.specs.declared.token.Token.{Token}
use Rattle.plai_lex.specs.Tokens.{with_tokens, IsWritten}
use Rattle.plai_sources.specs.Answering.{AreInside}
use Rattle.plai_sources.proofs.text.next_term.Given as goal

abbrev pub invariant-loop-tokens : goal.invariant-loop-tokens
invariant-loop-tokens l = record {
  inside : AreInside l.tokens.items;
  same : l.initial.lexer ≡ with_tokens l.tokens.items l.lexer;
  written : All (λ (token : Token). IsWritten token.kind) l.tokens.items;
}

abbrev pub decreases-loop-tokens : goal.decreases-loop-tokens
decreases-loop-tokens l = length l.lexer.tokens
