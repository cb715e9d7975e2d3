use Rattle.plai_table.proofs.RowLemmas.{distinct_in, same_key}
use Rattle.plai_table.proofs.table.Table.len.Goals as goal

pub returns-clause-distinct : goal.returns-clause-distinct
returns-clause-distinct g c = distinct_in (same_key g.V.PartialEq.eq) c.self.inside.rows c.args.self.now c.self.view_is c.len.ensures.unique
