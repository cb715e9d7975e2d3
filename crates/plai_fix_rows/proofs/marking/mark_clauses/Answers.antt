use Rattle.std.proofs.Common.{◌∙◌, arith}
use Rattle.plai_fix_rows.proofs.Marked.{clauses_more}
use Rattle.plai_fix_rows.proofs.marking.mark_clauses.Goals as goal

pub loop-clause-preserved : goal.loop-clause-preserved
loop-clause-preserved c = record {
  within = omega (arith, c.loop-clause-test.true);
  marked = λ r k. clauses_more c.args.row c.loop-clause.clause r k _ _ _ (c.in_ok-mark_dirty.ensures.ok r k) (c.loop-clause.invariant.marked r k);
  same = λ r k q. c.in_ok-mark_dirty.ensures.calls r k q ∙ c.loop-clause.invariant.same r k q;
}
