use Rattle.std.proofs.Common.{◌≡◌, Some, arith}
use Rattle.std.proofs.lemmas.Grind.{common_steps}
use Rattle.plai_domain.specs.Instances.{acts_within}
use Rattle.plai_eval.proofs.Closed.{refined_there}
use Rattle.plai_eval.proofs.evaluation.act_all.Goals as goal

pub loop-action-preserved : goal.loop-action-preserved
loop-action-preserved g c =
    let p = g.D.Domain.plain c.args.domain.now in
    let before = g.D.Domain.state_of c.loop-action.state in
    let after = g.D.Domain.state_of c.in-Ok-Some.next in
    let within : acts_within _ c.action-item.result = grind (arith, common_steps) in
    let refined : (p.refine before c.args.args.now c.action-item.result).value ≡ Some after = grind (arith, common_steps) in
    record {
      there = refined_there p (g.met.D.Domain.lawful c.args.domain.now) _ _ c.args.args.now c.requires.args _ before after
          within c.loop-action.invariant.there refined;
      state = grind (arith, common_steps);
      over = grind (arith, common_steps);
      cost = grind (arith, common_steps);
    }
