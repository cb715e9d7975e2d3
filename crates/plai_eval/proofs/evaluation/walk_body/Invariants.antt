use Rattle.std.proofs.Common.{◌≡◌, ◌+◌, ◌≤◌, ◌++◌, suc, drop, map, sum_by, Some}
use Rattle.plai_domain.specs.Names.{name_of}
use Rattle.plai_eval.specs.Walk.{walk}
use Rattle.plai_eval.specs.Cost.{literal_cost}
use Rattle.plai_eval.proofs.evaluation.walk_body.Given as goal

-- what is left gives what all gives, behind the calls so far, and the steps so far leave room for it
abbrev pub invariant-loop-literal : goal.invariant-loop-literal
invariant-loop-literal g l =
    let p = g.D.Domain.plain l.domain in
    let source = g.A.Answers.source l.answers in
    let names = map (name_of g.D.Domain.value_of) in
    let first = g.D.Domain.state_of l.fn.state in
    let rest = walk p source l.head (suc l.number) (drop l.literal-index l.body) (Some (g.D.Domain.state_of l.state)) in
    let all = walk p source l.head 1 l.body (Some first) in
    record {
      there : p.Below first.arity first.variables (g.D.Domain.state_of l.state) (g.D.Domain.state_of l.state);
      number : l.number ≡ l.literal-index;
      answer : rest.answer ≡ all.answer;
      calls : names l.calls.items ++ rest.calls ≡ names l.initial.calls.items ++ all.calls;
      over : rest.over ≡ all.over;
      cost : l.steps + sum_by literal_cost (drop l.literal-index l.body) ≤ l.initial.steps + sum_by literal_cost l.body;
    }
