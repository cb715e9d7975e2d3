use Rattle.plai_bdd.proofs.Depends.{lower_places}
use Rattle.plai_bdd.proofs.bdd.Bdd.shift_down.Goals as goal

pub combined-requires-clause-left : goal.combined-requires-clause-left
combined-requires-clause-left c = lower_places c.args.by _ c.requires

pub combined-requires-clause-right : goal.combined-requires-clause-right
combined-requires-clause-right c = lower_places c.args.by _ c.requires
