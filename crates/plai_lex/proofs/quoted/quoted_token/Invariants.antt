use Rattle.std.proofs.Common.{◌≡◌, ◌≤◌, ◌-◌, length, drop}
use Rattle.plai_lex.specs.Quoted.{quoted_from}
use Rattle.plai_lex.proofs.QuotedItems.{prepended}
use Rattle.plai_lex.proofs.quoted.quoted_token.Given as goal

abbrev pub invariant-loop-codes : goal.invariant-loop-codes
invariant-loop-codes l = record {
  inside : l.at ≤ length l.text;
  items : prepended l.codes.items (quoted_from l.quote l.at (drop l.at l.text)) ≡ quoted_from l.quote 1 (drop 1 l.text);
}

abbrev pub decreases-loop-codes : goal.decreases-loop-codes
decreases-loop-codes l = length l.text - l.at
