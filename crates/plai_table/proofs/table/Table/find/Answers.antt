use Rattle.plai_table.proofs.RowLemmas.{found_in, same_key}
use Rattle.plai_table.proofs.table.Table.find.Goals as goal

pub returns-in-Some : goal.returns-in-Some
returns-in-Some g c = found_in (same_key g.V.PartialEq.eq c.args.name.now) c.self.inside.rows c.args.self.now _ c.self.view_is c.in-Some.ensures.index

pub returns-in-None : goal.returns-in-None
returns-in-None g c = found_in (same_key g.V.PartialEq.eq c.args.name.now) c.self.inside.rows c.args.self.now _ c.self.view_is c.in-None.ensures.index
