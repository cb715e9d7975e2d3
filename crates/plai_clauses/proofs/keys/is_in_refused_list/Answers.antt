use Rattle.plai_clauses.specs.Builtins.{refused}
use Rattle.plai_clauses.proofs.keys.is_in_refused_list.Goals as goal

pub returns : goal.returns
unfolding refused
returns c = rw c.as_slice.ensures at c.is_among.ensures
