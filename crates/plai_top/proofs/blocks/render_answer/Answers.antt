use Rattle.plai_top.proofs.Answering.{on_table, on_refused, on_rows, on_groups}
use Rattle.plai_top.proofs.blocks.render_answer.Goals as goal

pub returns-in-Table : goal.returns-in-Table
returns-in-Table g c =
    let s = c.args.session.now in
    rw c.in-Table.is (on_table c.args.form (g.D.Domain.plain s.domain) s.limit c.args.number s.program s.table _ c.render_own.new.out.items c.requires
    c.render_own.result c.render_own.ensures)

pub returns-in-Refused : goal.returns-in-Refused
returns-in-Refused g c =
    let s = c.args.session.now in
    rw c.in-Refused.is (on_refused c.args.form (g.D.Domain.plain s.domain) s.limit c.args.number s.program s.table _ c.write_cause.new.text.items c.requires
    c.write_cause.result c.in-Refused.cause c.write_cause.ensures)

pub returns-in-StoppedRows : goal.returns-in-StoppedRows
returns-in-StoppedRows g c =
    let s = c.args.session.now in
    rw c.in-StoppedRows.is (on_rows c.args.form (g.D.Domain.plain s.domain) s.limit c.args.number s.program s.table _ c.write_limit.new.text.items c.requires
    c.write_limit.result c.in-StoppedRows.rows c.write_limit.ensures)

pub returns-in-StoppedGroups : goal.returns-in-StoppedGroups
returns-in-StoppedGroups g c =
    let s = c.args.session.now in
    let at = c.in-StoppedGroups in
    rw at.is (on_groups c.args.form (g.D.Domain.plain s.domain) s.limit c.args.number s.program s.table _ c.write_limit-in-StoppedGroups.new.text.items
    c.requires c.write_limit-in-StoppedGroups.result at.row at.clause at.literal at.place c.write_limit-in-StoppedGroups.ensures)
