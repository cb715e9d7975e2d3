use Rattle.plai_assert.proofs.Lists.{in_at}
use Rattle.plai_assert.proofs.judging.all_verdicts.Goals as goal

pub verdict_in-requires-clause-rows : goal.verdict_in-requires-clause-rows
verdict_in-requires-clause-rows g c =
    let check = c.check-item.result in
    c.requires.rows check (in_at c.args.checks.now c.loop-check.check-index check c.loop-check-test.true c.check-item.is)

pub verdict_in-requires-clause-check : goal.verdict_in-requires-clause-check
verdict_in-requires-clause-check g c =
    let check = c.check-item.result in
    c.requires.checks check (in_at c.args.checks.now c.loop-check.check-index check c.loop-check-test.true c.check-item.is)
