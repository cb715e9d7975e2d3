use Rattle.std.proofs.Common.{◌≡◌, ◌≤◌, ◌-◌, length, drop}
use Rattle.plai_lex.specs.Tokens.{tokens_from}
use Rattle.plai_lex.proofs.lexer.next_token.Given as goal

abbrev pub invariant-loop-len : goal.invariant-loop-len
invariant-loop-len l = record {
  inside : l.at ≤ length l.text;
  same : tokens_from l.at l.tight (drop l.at l.text) ≡ tokens_from l.fn.start l.initial.tight (drop l.fn.start l.text);
}

abbrev pub decreases-loop-len : goal.decreases-loop-len
decreases-loop-len l = length l.text - l.at
