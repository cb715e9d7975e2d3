use Rattle.plai_eval.proofs.Facts.{facts_least}
use Rattle.plai_eval.proofs.laws.facts_give_the_least_table.Goals as goal

pub returns : goal.returns
returns g c = λ domain program facts rows. facts_least (g.T.AnyPlainDomain.plain domain) program facts rows
