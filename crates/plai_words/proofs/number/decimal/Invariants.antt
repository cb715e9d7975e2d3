use Rattle.std.proofs.Common.{◌≡◌, ◌<◌, ◌^◌, drop}
use Rattle.plai_words.specs.Numbers.{decimal}
use Rattle.plai_words.proofs.number.decimal.Given as goal

abbrev pub invariant-loop-byte : goal.invariant-loop-byte
invariant-loop-byte l = record {
  same : decimal l.value (drop l.byte-index l.text) ≡ decimal 0 l.text;
  bound : l.value < 10 ^ l.byte-index;
}
