use Rattle.std.proofs.Common.{◌≡◌, map}
use Rattle.plai_assert.specs.Rows.{plain}
use Rattle.plai_assert.proofs.Tested.{verdict_told}
use Rattle.plai_assert.proofs.judging.verdict_at.Goals as goal

pub returns : goal.returns
returns g c =
    let e = verdict_told c.args.check.now.kind (g.D.Domain.plain c.args.domain.now) c.args.check.now (map (plain g.D.Domain.value_of) c.args.rows.now) in
    cc
