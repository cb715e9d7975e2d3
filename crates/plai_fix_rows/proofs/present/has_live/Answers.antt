use Rattle.plai_fix_rows.proofs.TableRows.{live_of, none_of}
use Rattle.std.proofs.Common.{sym, arith}
use Rattle.plai_fix_rows.proofs.present.has_live.Goals as goal

pub returns-then-row-len : goal.returns-then-row-len
returns-then-row-len g c = sym (live_of _ g.D.Domain.value_of (g.D.Domain.plain c.args._domain.now) c.args.table.now.rows c.args.row _ c.row.ensures)

pub returns-else-row-len : goal.returns-else-row-len
returns-else-row-len g c = sym (none_of _ g.D.Domain.value_of (g.D.Domain.plain c.args._domain.now) c.args.table.now.rows c.args.row
    (omega (arith, c.if-row-len.false, c.len.ensures.len)))
