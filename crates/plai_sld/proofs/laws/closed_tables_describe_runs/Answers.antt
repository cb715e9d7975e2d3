use Rattle.plai_sld.proofs.Theorem.{closed_describes, least_closes, least_describes}
use Rattle.plai_sld.proofs.laws.closed_tables_describe_runs.Goals as goal

pub returns : goal.returns
returns g c = record {
  closed = λ domain. closed_describes (g.T.AnyPlainDomain.plain domain) c.meanings_are_allowed.ensures.allowed;
  least_is_closed = λ domain. least_closes (g.T.AnyPlainDomain.plain domain);
  least = λ domain. least_describes (g.T.AnyPlainDomain.plain domain) c.meanings_are_allowed.ensures.allowed;
}
