use Rattle.std.proofs.Common.{◌∙◌, arith}
use Rattle.plai_repair.proofs.Gains.{past_more}
use Rattle.plai_repair.proofs.gaining.mark_past.Goals as goal

pub loop-clause-preserved : goal.loop-clause-preserved
loop-clause-preserved c =
    let i = c.loop-clause.invariant in record {
      behind = omega (arith, i.behind);
      within = λ h. omega (arith, c.loop-clause-test.true);
      early = λ h. let e = i.early h in absurd (omega (arith, e, h, c.loop-clause-test.true));
      marked = λ r k. past_more c.args.row c.args.first c.loop-clause.clause r k _ _ _ i.behind (c.in_ok-mark_dirty.ensures.ok r k) (i.marked r k);
      same = λ r k q. c.in_ok-mark_dirty.ensures.calls r k q ∙ i.same r k q;
    }
