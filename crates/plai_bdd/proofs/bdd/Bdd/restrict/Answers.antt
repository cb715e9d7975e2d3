use Rattle.plai_bdd.proofs.Depends.{fix_places}
use Rattle.plai_bdd.proofs.bdd.Bdd.restrict.Goals as goal

pub combined-requires-clause-left : goal.combined-requires-clause-left
combined-requires-clause-left c = fix_places c.args.slot c.args.value _

pub combined-requires-clause-right : goal.combined-requires-clause-right
combined-requires-clause-right c = fix_places c.args.slot c.args.value _
