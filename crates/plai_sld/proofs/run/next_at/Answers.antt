use Rattle.std.proofs.lemmas.Result.{IfOk-weaker}
use Rattle.plai_sld.proofs.Found.{on_stack_of}
use Rattle.plai_sld.proofs.run.next_at.Goals as goal

pub returns-in-Some : goal.returns-in-Some
returns-in-Some c =
    IfOk-weaker c.next_at_front.result _ _
    (λ next h. on_stack_of c.args.program.now c.args.stack.now c.in-Some.rest.now c.in-Some.front.now c.args.number c.args.choice next
    c.in-Some.ensures.cases.0 h)
    c.next_at_front.ensures
