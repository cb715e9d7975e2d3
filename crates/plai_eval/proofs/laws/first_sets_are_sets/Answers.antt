use Rattle.plai_eval.proofs.Over.{over_is}
use Rattle.plai_eval.proofs.laws.first_sets_are_sets.Goals as goal

pub returns : goal.returns
returns g c = λ domain. over_is (g.T.AnyPlainDomain.plain domain)
