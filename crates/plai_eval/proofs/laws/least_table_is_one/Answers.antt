use Rattle.plai_eval.proofs.One as one
use Rattle.plai_eval.proofs.laws.least_table_is_one.Goals as goal

pub returns : goal.returns
returns g c = λ domain. one.least_table_is_one (g.T.AnyPlainDomain.plain domain)
