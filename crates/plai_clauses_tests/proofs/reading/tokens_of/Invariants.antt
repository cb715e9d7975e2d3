use Rattle.std.proofs.Common.{◌≤◌, length}
use Rattle.std.specs.Prelude.{All}
use Rattle.plai_lex.specs.Tokens.{IsWritten}
use Rattle.plai_clauses_tests.proofs.reading.tokens_of.Given as goal

abbrev pub invariant-loop-count : goal.invariant-loop-count
invariant-loop-count l = (length l.tokens.items ≤ l.count) × All (λ token. IsWritten token.kind) l.tokens.items
