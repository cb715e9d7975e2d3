use Rattle.plai_lex.proofs.DigitRuns.{goes_on, goes_over}
use Rattle.plai_lex.proofs.digits.digits_at.Goals as goal

pub returns-in_err-value-in-Some-clause-value : goal.returns-in_err-value-in-Some-clause-value
returns-in_err-value-in-Some-clause-value c =
    rw c.from_residual.ensures (goes_over _ c.loop-i.value c.loop-i.i _ _ _ _ _ c.requires.low c.loop-i-test.true c.from.ensures
    c.in-Some.ensures.value.0 c.in-Some.ensures.value.1 c.in_err-value-in-Some.ensures c.loop-i.invariant.reads)

pub loop-i-preserved : goal.loop-i-preserved
loop-i-preserved c = record {
  reads = goes_on _ c.loop-i.value c.loop-i.i _ _ _ _ _ c.loop-i-test.true c.from.ensures
      c.in-Some.ensures.value.0 c.in-Some.ensures.value.1 c.in_ok-value-in-Some.ensures.1 c.loop-i.invariant.reads;
  limited = rw c.in_ok-value-in-Some.ensures.1 c.in_ok-value-in-Some.ensures.0;
}
