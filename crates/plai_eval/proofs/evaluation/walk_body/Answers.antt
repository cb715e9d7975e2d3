use Rattle.std.proofs.Common.{◌≡◌, ◌+◌, ◌∷◌, ◌++◌, ◌∙◌, suc, drop, map, Some, None, sym, ap, arith}
use Rattle.std.proofs.lemmas.Grind.{common_steps}
use Rattle.plai_clauses.specs.WellFormed.{IsLiteral}
use Rattle.plai_domain.specs.Names.{name_of}
use Rattle.plai_eval.specs.Evaluation.{Evaluation}
use Rattle.plai_eval.specs.Walk.{step}
use Rattle.plai_eval.proofs.Walk.{walk_stops}
use Rattle.plai_eval.proofs.Closed.{step_there}
use Rattle.plai_eval.proofs.evaluation.walk_body.Goals as goal

pub loop-literal-preserved : goal.loop-literal-preserved
loop-literal-preserved g c =
    let p = g.D.Domain.plain c.args.domain.now in
    let source = g.A.Answers.source c.args.answers.now in
    let before = g.D.Domain.state_of c.loop-literal.state in
    let after = g.D.Domain.state_of c.in-Some.next in
    let fits : IsLiteral _ _ c.literal-item.result = grind (arith, common_steps, c.requires.body) in
    let stepped : (step p source (c.loop-literal.number + 1) c.literal-item.result before).state ≡ Some after = grind (arith, common_steps) in
    record {
      there = step_there p (g.met.D.Domain.lawful c.args.domain.now) _ _ source c.requires.answers _ _ fits before after c.loop-literal.invariant.there stepped;
      number = grind (arith, common_steps);
      answer = grind (arith, common_steps);
      calls = grind (arith, common_steps);
      over = grind (arith, common_steps);
      cost = grind (arith, common_steps);
    }

pub returns-in-None-clause-answer : goal.returns-in-None-clause-answer
returns-in-None-clause-answer g c =
    let p = g.D.Domain.plain c.args.domain.now in
    let source = g.A.Answers.source c.args.answers.now in
    let before = g.D.Domain.state_of c.loop-literal.state in
    let stepped : (step p source (c.loop-literal.number + 1) c.literal-item.result before).state ≡ None = grind (arith, common_steps) in
    let next : suc c.loop-literal.number ≡ c.loop-literal.number + 1 = omega arith in
    let more : drop c.loop-literal.literal-index c.args.body.now ≡ c.literal-item.result ∷ drop (c.loop-literal.literal-index + 1) c.args.body.now =
    grind (arith, common_steps) in
    let stops = walk_stops p source c.args.head.now _ _ _ _ _ before next more stepped in
    sym (ap (λ (e : Evaluation). e.answer) stops) ∙ c.loop-literal.invariant.answer

pub returns-in-None-clause-calls : goal.returns-in-None-clause-calls
returns-in-None-clause-calls g c =
    let p = g.D.Domain.plain c.args.domain.now in
    let source = g.A.Answers.source c.args.answers.now in
    let before = g.D.Domain.state_of c.loop-literal.state in
    let stepped : (step p source (c.loop-literal.number + 1) c.literal-item.result before).state ≡ None = grind (arith, common_steps) in
    let next : suc c.loop-literal.number ≡ c.loop-literal.number + 1 = omega arith in
    let more : drop c.loop-literal.literal-index c.args.body.now ≡ c.literal-item.result ∷ drop (c.loop-literal.literal-index + 1) c.args.body.now =
    grind (arith, common_steps) in
    let stops = walk_stops p source c.args.head.now _ _ _ _ _ before next more stepped in
    c.in_ok-next.ensures.calls ∙ sym (ap (λ (e : Evaluation). map (name_of g.D.Domain.value_of) c.loop-literal.calls.items ++ e.calls) stops)
    ∙ c.loop-literal.invariant.calls

pub returns-in-None-clause-within : goal.returns-in-None-clause-within
returns-in-None-clause-within g c =
    let p = g.D.Domain.plain c.args.domain.now in
    let source = g.A.Answers.source c.args.answers.now in
    let before = g.D.Domain.state_of c.loop-literal.state in
    let stepped : (step p source (c.loop-literal.number + 1) c.literal-item.result before).state ≡ None = grind (arith, common_steps) in
    let next : suc c.loop-literal.number ≡ c.loop-literal.number + 1 = omega arith in
    let more : drop c.loop-literal.literal-index c.args.body.now ≡ c.literal-item.result ∷ drop (c.loop-literal.literal-index + 1) c.args.body.now =
    grind (arith, common_steps) in
    let stops = walk_stops p source c.args.head.now _ _ _ _ _ before next more stepped in
    sym c.loop-literal.invariant.over ∙ ap (λ (e : Evaluation). e.over) stops ∙ c.in_ok-next.ensures.within
