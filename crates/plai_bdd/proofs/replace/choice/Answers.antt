use Rattle.std.proofs.Common.{◌&&◌, ◌||◌, ◌∙◌}
use Rattle.std.specs.Bool.{beq}
use Rattle.plai_bdd.specs.Nodes.{holds}
use Rattle.plai_bdd.proofs.Functions.{IsFunction-as}
use Rattle.plai_bdd.proofs.Steps.{ok_then}
use Rattle.plai_bdd.proofs.Replaced.{chosen}
use Rattle.plai_bdd.proofs.replace.choice.Goals as goal

pub returns : goal.returns
returns c =
    let test = holds c.args.test.now in
    let low = holds c.args.low.now in
    let high = holds c.args.high.now in
    ok_then _ _
    (λ b h. IsFunction-as (λ at.
    (λ x. c.in_ok-both.ensures.answers at x || c.in_ok-other.ensures.answers at x)
    ∙ (λ x. (test at && high at) || (c.in_ok-iff.ensures.answers at x && low at))
    ∙ (λ x. (test at && high at) || (beq (test at) (c.in_ok-never.ensures.answers at x) && low at))
    ∙ chosen (test at) (low at) (high at)) h)
    c.or-2.result c.or-2.ensures
