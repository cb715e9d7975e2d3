use Rattle.plai_bdd.proofs.Depends.{raise_places}
use Rattle.plai_bdd.proofs.bdd.Bdd.shift_up.Goals as goal

pub combined-requires-clause-left : goal.combined-requires-clause-left
combined-requires-clause-left c = raise_places c.args.by _ c.requires

pub combined-requires-clause-right : goal.combined-requires-clause-right
combined-requires-clause-right c = raise_places c.args.by _ c.requires
