use Rattle.std.specs.Bool.{beq}
use Rattle.plai_bdd.proofs.Steps.{ok_then}
use Rattle.plai_bdd.proofs.Functions.{IsFunction-as}
use Rattle.plai_bdd.proofs.Slots.{iff_meaning}
use Rattle.plai_bdd.proofs.bdd.Bdd.iff_all.Goals as goal

pub returns-clause-function : goal.returns-clause-function
returns-clause-function c =
    ok_then _ _ (λ b h. IsFunction-as (λ at. (λ x. beq (c.in_ok-variable.ensures.answers at x) (c.in_ok-conjunction.ensures.function.answers at x))) h)
    c.iff.result c.iff.ensures

pub returns-clause-meaning : goal.returns-clause-meaning
returns-clause-meaning c =
    ok_then _ _ (λ b h. iff_meaning c.args.slot c.args.all b
    (IsFunction-as (λ at. (λ x. beq (c.in_ok-variable.ensures.answers at x) (c.in_ok-conjunction.ensures.function.answers at x))) h)) c.iff.result
    c.iff.ensures
