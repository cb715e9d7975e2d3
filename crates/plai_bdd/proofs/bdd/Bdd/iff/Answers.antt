use Rattle.plai_bdd.proofs.Depends.{keep_places}
use Rattle.plai_bdd.proofs.bdd.Bdd.iff.Goals as goal

pub combined-requires-clause-left : goal.combined-requires-clause-left
combined-requires-clause-left c = keep_places _

pub combined-requires-clause-right : goal.combined-requires-clause-right
combined-requires-clause-right c = keep_places _
