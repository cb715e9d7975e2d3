use Rattle.std.proofs.Common.{Some, None, subst, inr}
use Rattle.plai_arcs.specs.Arcs.{is_dirty}
use Rattle.plai_eval.specs.Meaning.{as_domain}
use Rattle.plai_fix_rows.specs.Tables.{key_name, kept_rows, state_of}
use Rattle.plai_fix_rows.specs.Solving.{Places}
use Rattle.plai_fix_laws.proofs.Pairs.{is_named}
use Rattle.plai_fix_rows.proofs.Parts.{err_more, ok_more, ok_both}
use Rattle.plai_fix_laws.proofs.Extended.{extends_then, extends_of_rows}
use Rattle.plai_fix_rows.proofs.Placed.{places_rows, places_extends}
use Rattle.plai_fix_rows.proofs.OpenedRows.{placed_named, placed_full, entry_placed, has_live}
use Rattle.plai_fix_rows.proofs.TableRows.{is_there}
use Rattle.plai_fix_rows.proofs.entries.place_entry.Goals as goal

pub returns-in-Some-clause-at_work : goal.returns-in-Some-clause-at_work
returns-in-Some-clause-at_work g c =
    let p = g.D.Domain.plain c.args.task.now.domain.now in
    let value_of = g.D.Domain.value_of in
    let laws = g.met.D.Domain.lawful c.args.task.now.domain.now in
    let program = c.args.task.now.program.now in
    let limit = c.args.task.now.limit in
    let y = key_name value_of c.args.key in
    let old = state_of value_of p c.args.table.now.rows c.args.arcs.now in
    let told = g.W.Work.entries c.args.work.now in
    let new = state_of value_of p c.place.new.table.rows c.place.new.arcs in
    let later = g.W.Work.entries c.place.new.work in
    let placed : Places p program limit y old told new later (Some c.in-Some.row) = subst
    (Places p program limit y old told new later) c.in-Some.is c.in_ok-row.ensures.placed in
    ok_more _ _ c.meet_entry.result c.meet_entry.ensures.at_work
    (λ met begun cost w. met begun cost y (placed_named p program limit y old told new later c.in-Some.row placed) c.requires.entry
    (entry_placed p program limit y old told laws c.requires.well_formed begun cost (is_dirty c.args.unmet.now) c.requires.entry w new later
    (Some c.in-Some.row) placed))

pub returns-in-Some-clause-told : goal.returns-in-Some-clause-told
returns-in-Some-clause-told g c =
    let p = g.D.Domain.plain c.args.task.now.domain.now in
    let value_of = g.D.Domain.value_of in
    let laws = g.met.D.Domain.lawful c.args.task.now.domain.now in
    let program = c.args.task.now.program.now in
    let limit = c.args.task.now.limit in
    let y = key_name value_of c.args.key in
    let old = state_of value_of p c.args.table.now.rows c.args.arcs.now in
    let told = g.W.Work.entries c.args.work.now in
    let new = state_of value_of p c.place.new.table.rows c.place.new.arcs in
    let later = g.W.Work.entries c.place.new.work in
    let placed : Places p program limit y old told new later (Some c.in-Some.row) = subst
    (Places p program limit y old told new later) c.in-Some.is c.in_ok-row.ensures.placed in
    err_more _ _ c.meet_entry.result c.meet_entry.ensures.told
    (λ met begun cost w. met begun cost y (placed_named p program limit y old told new later c.in-Some.row placed) c.requires.entry
    (entry_placed p program limit y old told laws c.requires.well_formed begun cost (is_dirty c.args.unmet.now) c.requires.entry w new later
    (Some c.in-Some.row) placed))

pub returns-in-Some-clause-of_rows : goal.returns-in-Some-clause-of_rows
returns-in-Some-clause-of_rows g c =
    let p = g.D.Domain.plain c.args.task.now.domain.now in
    let value_of = g.D.Domain.value_of in
    let laws = g.met.D.Domain.lawful c.args.task.now.domain.now in
    let program = c.args.task.now.program.now in
    let limit = c.args.task.now.limit in
    let y = key_name value_of c.args.key in
    let old = state_of value_of p c.args.table.now.rows c.args.arcs.now in
    let told = g.W.Work.entries c.args.work.now in
    let new = state_of value_of p c.place.new.table.rows c.place.new.arcs in
    let later = g.W.Work.entries c.place.new.work in
    let placed : Places p program limit y old told new later (Some c.in-Some.row) = subst
    (Places p program limit y old told new later) c.in-Some.is c.in_ok-row.ensures.placed in
    ok_more _ _ c.meet_entry.result c.meet_entry.ensures.extends
    (λ extends. extends_of_rows (as_domain p) (kept_rows value_of p c.place.new.table.rows) (kept_rows value_of p c.meet_entry.new.table.rows)
    (is_dirty c.place.new.arcs) extends (places_rows p program limit y old told new later (Some c.in-Some.row) placed c.requires.of_rows))

pub returns-in-Some-clause-live : goal.returns-in-Some-clause-live
returns-in-Some-clause-live g c =
    let p = g.D.Domain.plain c.args.task.now.domain.now in
    let value_of = g.D.Domain.value_of in
    let laws = g.met.D.Domain.lawful c.args.task.now.domain.now in
    let program = c.args.task.now.program.now in
    let limit = c.args.task.now.limit in
    let y = key_name value_of c.args.key in
    let old = state_of value_of p c.args.table.now.rows c.args.arcs.now in
    let told = g.W.Work.entries c.args.work.now in
    let new = state_of value_of p c.place.new.table.rows c.place.new.arcs in
    let later = g.W.Work.entries c.place.new.work in
    let placed : Places p program limit y old told new later (Some c.in-Some.row) = subst
    (Places p program limit y old told new later) c.in-Some.is c.in_ok-row.ensures.placed in
    let named = placed_named p program limit y old told new later c.in-Some.row placed in
    ok_both _ _ _ c.meet_entry.result c.meet_entry.ensures.live c.meet_entry.ensures.extends
    (λ live extends. has_live (as_domain p) limit (kept_rows value_of p c.place.new.table.rows) (kept_rows value_of p c.meet_entry.new.table.rows) y
    c.in-Some.row extends named (live (is_there _ value_of p c.place.new.table.rows c.in-Some.row
    (is_named (as_domain p) (kept_rows value_of p c.place.new.table.rows) c.in-Some.row y named))))

pub returns-in-Some-clause-extends : goal.returns-in-Some-clause-extends
returns-in-Some-clause-extends g c =
    let p = g.D.Domain.plain c.args.task.now.domain.now in
    let value_of = g.D.Domain.value_of in
    let laws = g.met.D.Domain.lawful c.args.task.now.domain.now in
    let program = c.args.task.now.program.now in
    let limit = c.args.task.now.limit in
    let y = key_name value_of c.args.key in
    let old = state_of value_of p c.args.table.now.rows c.args.arcs.now in
    let told = g.W.Work.entries c.args.work.now in
    let new = state_of value_of p c.place.new.table.rows c.place.new.arcs in
    let later = g.W.Work.entries c.place.new.work in
    let placed : Places p program limit y old told new later (Some c.in-Some.row) = subst
    (Places p program limit y old told new later) c.in-Some.is c.in_ok-row.ensures.placed in
    ok_more _ _ c.meet_entry.result c.meet_entry.ensures.extends
    (λ extends. extends_then (as_domain p) (kept_rows value_of p c.args.table.now.rows) (kept_rows value_of p c.place.new.table.rows)
    (kept_rows value_of p c.meet_entry.new.table.rows) (places_extends p program limit y old told new later (Some c.in-Some.row) placed) extends)

pub returns-in-None-clause-at_work : goal.returns-in-None-clause-at_work
returns-in-None-clause-at_work g c =
    let p = g.D.Domain.plain c.args.task.now.domain.now in
    let value_of = g.D.Domain.value_of in
    let laws = g.met.D.Domain.lawful c.args.task.now.domain.now in
    let program = c.args.task.now.program.now in
    let limit = c.args.task.now.limit in
    let y = key_name value_of c.args.key in
    let old = state_of value_of p c.args.table.now.rows c.args.arcs.now in
    let told = g.W.Work.entries c.args.work.now in
    let new = state_of value_of p c.place.new.table.rows c.place.new.arcs in
    let later = g.W.Work.entries c.place.new.work in
    let placed : Places p program limit y old told new later None = subst (Places p program limit y old told new later) c.in-None.is
    c.in_ok-row.ensures.placed in
    λ begun cost w.
    entry_placed p program limit y old told laws c.requires.well_formed begun cost (is_dirty c.args.unmet.now) c.requires.entry w new later None placed

pub returns-in-None-clause-of_rows : goal.returns-in-None-clause-of_rows
returns-in-None-clause-of_rows g c =
    let p = g.D.Domain.plain c.args.task.now.domain.now in
    let value_of = g.D.Domain.value_of in
    let laws = g.met.D.Domain.lawful c.args.task.now.domain.now in
    let program = c.args.task.now.program.now in
    let limit = c.args.task.now.limit in
    let y = key_name value_of c.args.key in
    let old = state_of value_of p c.args.table.now.rows c.args.arcs.now in
    let told = g.W.Work.entries c.args.work.now in
    let new = state_of value_of p c.place.new.table.rows c.place.new.arcs in
    let later = g.W.Work.entries c.place.new.work in
    let placed : Places p program limit y old told new later None = subst (Places p program limit y old told new later) c.in-None.is
    c.in_ok-row.ensures.placed in
    places_rows p program limit y old told new later None placed c.requires.of_rows

pub returns-in-None-clause-live : goal.returns-in-None-clause-live
returns-in-None-clause-live g c =
    let p = g.D.Domain.plain c.args.task.now.domain.now in
    let value_of = g.D.Domain.value_of in
    let laws = g.met.D.Domain.lawful c.args.task.now.domain.now in
    let program = c.args.task.now.program.now in
    let limit = c.args.task.now.limit in
    let y = key_name value_of c.args.key in
    let old = state_of value_of p c.args.table.now.rows c.args.arcs.now in
    let told = g.W.Work.entries c.args.work.now in
    let new = state_of value_of p c.place.new.table.rows c.place.new.arcs in
    let later = g.W.Work.entries c.place.new.work in
    let placed : Places p program limit y old told new later None = subst (Places p program limit y old told new later) c.in-None.is
    c.in_ok-row.ensures.placed in
    inr (placed_full p program limit y old told new later placed)

pub returns-in-None-clause-extends : goal.returns-in-None-clause-extends
returns-in-None-clause-extends g c =
    let p = g.D.Domain.plain c.args.task.now.domain.now in
    let value_of = g.D.Domain.value_of in
    let laws = g.met.D.Domain.lawful c.args.task.now.domain.now in
    let program = c.args.task.now.program.now in
    let limit = c.args.task.now.limit in
    let y = key_name value_of c.args.key in
    let old = state_of value_of p c.args.table.now.rows c.args.arcs.now in
    let told = g.W.Work.entries c.args.work.now in
    let new = state_of value_of p c.place.new.table.rows c.place.new.arcs in
    let later = g.W.Work.entries c.place.new.work in
    let placed : Places p program limit y old told new later None = subst (Places p program limit y old told new later) c.in-None.is
    c.in_ok-row.ensures.placed in
    places_extends p program limit y old told new later None placed
