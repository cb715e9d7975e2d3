use Rattle.std.proofs.Common.{refl}
use Rattle.plai_table.specs.Rows.{with_entry}
use Rattle.plai_table.proofs.RowLemmas.{live_same}
use Rattle.plai_table.proofs.table.Table.set_entry.Goals as goal

pub invariant_of-self : goal.invariant_of-self
invariant_of-self g c = live_same (with_entry c.args.entry) (λ r. refl) _ _ c.args.row c.self.inside.live c.set_entry.ensures.rows c.self.invariant
