use Rattle.std.proofs.Common.{◌≡◌, ◌+◌, ◌≤◌, ◌^◌, length}
use Rattle.plai_sources.specs.Items.{items_of_tokens, items_of}
use Rattle.plai_sources.specs.WellFormed.{IsGood}
use Rattle.plai_sources.proofs.text.read_items.Given as goal

abbrev pub invariant-loop-reading : goal.invariant-loop-reading
invariant-loop-reading l = record {
  same : items_of_tokens l.reading l.number l.lexer ≡ items_of l.text l.there;
  good : IsGood l.there l.reading;
  from : 1 ≤ l.number;
  room : l.number + length l.lexer.tokens ≤ 2 ^ 31;
}

abbrev pub decreases-loop-reading : goal.decreases-loop-reading
decreases-loop-reading l = length l.lexer.tokens
