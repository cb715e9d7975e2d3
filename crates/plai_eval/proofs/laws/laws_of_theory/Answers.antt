use Rattle.plai_eval.proofs.One.{strict}
use Rattle.plai_eval.proofs.Lawful.{lawful_at, limits_at}
use Rattle.plai_eval.proofs.laws.laws_of_theory.Goals as goal

pub returns : goal.returns
returns g c = record {
  domain = λ domain laws program. lawful_at (g.T.AnyPlainDomain.plain domain) laws program;
  limits = λ domain laws program. limits_at (g.T.AnyPlainDomain.plain domain) laws program;
  order = λ domain. strict (g.T.AnyPlainDomain.plain domain);
}
