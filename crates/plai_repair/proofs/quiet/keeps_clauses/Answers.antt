use Rattle.plai_repair.proofs.Stays.{row_stays}
use Rattle.plai_repair.proofs.quiet.keeps_clauses.Goals as goal

pub returns : goal.returns
returns g c =
    row_stays c.args.before.now c.args.after.now c.args.table.now.rows c.args.row _ c.row.ensures c.keeps.result c.keeps.ensures.0 c.keeps.ensures.1
