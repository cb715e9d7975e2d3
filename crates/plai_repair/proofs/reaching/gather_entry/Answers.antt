use Rattle.plai_repair.proofs.Reaches.{entry_not, entry_there}
use Rattle.plai_repair.proofs.reaching.gather_entry.Goals as goal

pub returns-then-not-row : goal.returns-then-not-row
returns-then-not-row g c = entry_not c.args.table.now.rows c.args.row _ _ c.row.ensures c.if-not-row.true c.requires.marked

pub returns : goal.returns
returns g c = entry_there c.args.table.now.rows c.args.row _ c.row.ensures c.if-not-row.false c.in_ok-gather.ensures
