use Rattle.plai_clauses.proofs.Formed.{clause_of_formed}
use Rattle.plai_clauses.proofs.laws.clause_law.Goals as goal

pub returns : goal.returns
returns c m is read clause r e = clause_of_formed m is read clause r e
