use Rattle.std.proofs.Common.{◌≤◌, drop}
use Rattle.plai_lex.specs.Numbers.{digits_at}
use Rattle.plai_lex.proofs.DigitRuns.{Reads}
use Rattle.plai_lex.proofs.digits.digits_at.Given as goal

abbrev pub invariant-loop-i : goal.invariant-loop-i
invariant-loop-i l = record {
  reads : Reads l.base l.value l.i (digits_at l.base (drop l.i l.text)) (digits_at l.base l.text);
  limited : l.value ≤ l.limit;
}
