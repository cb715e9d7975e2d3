use Rattle.std.proofs.Common.{◌≡◌, ◌+◌, ◌≤◌, drop, Some}
use Rattle.plai_eval.specs.Walk.{act}
use Rattle.plai_eval.proofs.evaluation.act_all.Given as goal

-- what is left gives what all gives, and each action took a step
abbrev pub invariant-loop-action : goal.invariant-loop-action
invariant-loop-action g l =
    let p = g.D.Domain.plain l.domain in
    let first = g.D.Domain.state_of l.fn.state in
    let rest = act p l.number l.args (drop l.action-index l.actions) (Some (g.D.Domain.state_of l.state)) in
    let all = act p l.number l.args l.actions (Some first) in
    record {
      there : p.Below first.arity first.variables (g.D.Domain.state_of l.state) (g.D.Domain.state_of l.state);
      state : rest.state ≡ all.state;
      over : rest.over ≡ all.over;
      cost : l.steps ≤ l.initial.steps + l.action-index;
    }
