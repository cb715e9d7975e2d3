use Rattle.std.proofs.Common.{IfErr, sym, ◌∙◌, subst, rules}
use Rattle.plai_eval.specs.Walk.{through}
use Rattle.plai_eval.specs.Answering.{TellsOver}
use Rattle.plai_eval.proofs.Walk.{through_answer, through_calls, through_over}
use Rattle.plai_eval.proofs.evaluation.evaluate.Goals as goal

pub returns-in_err-evaluated-clause-over : goal.returns-in_err-evaluated-clause-over
returns-in_err-evaluated-clause-over g c =
    let told : IfErr c.from_residual.result (TellsOver
    (through (g.D.Domain.plain c.args.domain.now) (g.A.Answers.source c.args.answers.now) c.args.clause.now
    (g.D.Domain.value_of c.args.name.now.call)).over) = search rules in
    subst (λ o. IfErr c.from_residual.result (TellsOver o))
    (through_over (g.D.Domain.plain c.args.domain.now) (g.A.Answers.source c.args.answers.now) c.args.clause.now
    (g.D.Domain.value_of c.args.name.now.call)) told

pub returns-clause-answer : goal.returns-clause-answer
returns-clause-answer g c = c.in_ok-evaluated.ensures.answer
    ∙ through_answer (g.D.Domain.plain c.args.domain.now) (g.A.Answers.source c.args.answers.now) c.args.clause.now (g.D.Domain.value_of c.args.name.now.call)

pub returns-clause-calls : goal.returns-clause-calls
returns-clause-calls g c = c.in_ok-evaluated.ensures.calls
    ∙ through_calls (g.D.Domain.plain c.args.domain.now) (g.A.Answers.source c.args.answers.now) c.args.clause.now (g.D.Domain.value_of c.args.name.now.call)

pub returns-clause-within : goal.returns-clause-within
returns-clause-within g c = sym (through_over (g.D.Domain.plain c.args.domain.now) (g.A.Answers.source c.args.answers.now) c.args.clause.now
    (g.D.Domain.value_of c.args.name.now.call)) ∙ c.in_ok-evaluated.ensures.within
