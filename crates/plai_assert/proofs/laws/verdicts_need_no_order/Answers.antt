use Rattle.plai_assert.proofs.Tested.{verdicts_moved}
use Rattle.plai_assert.proofs.laws.verdicts_need_no_order.Goals as goal

pub returns : goal.returns
returns g c = λ domain rows others checks moved. verdicts_moved (g.D.Domain.plain domain) rows others checks moved
