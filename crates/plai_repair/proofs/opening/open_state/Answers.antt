use Rattle.std.proofs.Common.{Bool, List, subst}
use Rattle.plai_repair.specs.Removal.{Removes}
use Rattle.plai_repair.proofs.Cut.{opened_where}
use Rattle.plai_repair.proofs.opening.open_state.Goals as goal

pub returns : goal.returns
returns g c =
    opened_where c.mark_gained.result g.D.Domain.value_of (g.D.Domain.plain c.args._domain.now) c.args.before.now c.args.after.now c.args.table.now.rows
    c.remove_rows.new.table.rows c.sleep_all.new.table.rows c.args.arcs.now c.remove_rows.new.arcs c.mark_gained.new.arcs c.in_ok-marks.marks.items
    c.in_ok-marks.ensures
    (subst (λ (marks : List Bool). Removes marks 0 c.args.table.now.rows c.args.arcs.now c.remove_rows.new.table.rows c.remove_rows.new.arcs)
    c.as_slice.ensures.value c.remove_rows.ensures)
    c.sleep_all.ensures c.mark_gained.ensures.dirty c.mark_gained.ensures.calls (g.met.D.Domain.lawful c.args._domain.now)
    c.is_program.ensures.well_formed
