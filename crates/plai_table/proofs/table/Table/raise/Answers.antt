use Rattle.std.proofs.Common.{refl}
use Rattle.plai_table.specs.Rows.{with_answer}
use Rattle.plai_table.proofs.RowLemmas.{live_same}
use Rattle.plai_table.proofs.table.Table.raise.Goals as goal

pub invariant_of-self : goal.invariant_of-self
invariant_of-self g c = live_same (with_answer c.args.answer) (λ r. refl) _ _ c.args.row c.self.inside.live c.set_answer.ensures.rows c.self.invariant
