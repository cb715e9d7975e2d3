use Rattle.plai_depth_laws.proofs.Decided.{leq_decided}
use Rattle.plai_depth_laws.proofs.values_are_compared.Goals as goal

pub returns : goal.returns
returns c = leq_decided
