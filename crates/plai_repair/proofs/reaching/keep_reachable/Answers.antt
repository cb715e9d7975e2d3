use Rattle.std.proofs.Common.{◌≤◌, Bool, List, length, subst}
use Rattle.std.proofs.lemmas.Option.{slice_get_within}
use Rattle.plai_clauses.specs.Program.{clauses_of}
use Rattle.plai_table.specs.Rows.{TableRow}
use Rattle.plai_repair.specs.Removal.{Removes}
use Rattle.plai_repair.proofs.Leads.{some_is}
use Rattle.plai_repair.proofs.Reaches.{keeps_reached}
use Rattle.plai_repair.proofs.reaching.keep_reachable.Goals as goal

pub remove_rows-requires-clause-callers : goal.remove_rows-requires-clause-callers
remove_rows-requires-clause-callers g c =
    λ r k q t.
    let (row, e, h) =
    some_is (λ (z : TableRow g.row.V.Denot). (1 ≤ k) × (k ≤ length (clauses_of c.args.program.now z.name.pred))) _ (c.requires.calls.callers r k q t) in
    slice_get_within c.args.table.now.rows r row e

pub returns-clause-ok : goal.returns-clause-ok
returns-clause-ok g c =
    let removes : Removes c.turn.new.marks.items 0 c.args.table.now.rows c.args.arcs.now c.remove_rows.new.table.rows c.remove_rows.new.arcs =
    subst (λ (marks : List Bool). Removes marks 0 c.args.table.now.rows c.args.arcs.now c.remove_rows.new.table.rows c.remove_rows.new.arcs)
    c.as_slice.ensures.value c.remove_rows.ensures in
    keeps_reached c.args.table.now.rows c.remove_rows.new.table.rows c.wake_all.new.table.rows c.args.arcs.now c.remove_rows.new.arcs
    c.in_ok-marks.marks.items c.turn.new.marks.items c.in_ok-marks.ensures c.turn.ensures.long c.turn.ensures.turned removes c.wake_all.ensures
