use Rattle.std.proofs.Common.{◌≡◌, sym, arith}
use Rattle.std.proofs.lemmas.Grind.{common_steps}
use Rattle.plai_eval.proofs.Closed.{answer_fits}
use Rattle.plai_eval.proofs.evaluation.call_literal.Goals as goal

-- the answer is a value of the predicate's arity, which is that of the arguments
pub back-requires-clause-answer : goal.back-requires-clause-answer
back-requires-clause-answer g c =
    let p = g.D.Domain.plain c.args.domain.now in
    let state = g.D.Domain.state_of c.args.state.now in
    let called : g.D.Domain.value_of c.in-Ok.call ≡ (p.call state c.args.args.now).value = grind (arith, common_steps) in
    answer_fits p (g.met.D.Domain.lawful c.args.domain.now) _ _ c.args.args.now c.requires.args (g.A.Answers.source c.args.answers.now) c.requires.answers
    c.args.pred.now c.requires.arity state c.requires.state _ _ _ c.in_ok-pred.ensures called (sym c.in-Some.ensures)
