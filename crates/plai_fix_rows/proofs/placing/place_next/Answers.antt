use Rattle.std.proofs.Common.{Some, None, subst}
use Rattle.plai_fix_rows.specs.Tables.{key_name, state_of}
use Rattle.plai_fix_rows.specs.Solving.{Places}
use Rattle.plai_fix_rows.proofs.Parts.{err_any}
use Rattle.plai_fix_rows.proofs.Placed.{places_rows, places_adds, places_extends, placed_row, placed_none, placed_legal}
use Rattle.plai_fix_rows.proofs.placing.place_next.Goals as goal

pub returns-in_err-push-in-Some-clause-told : goal.returns-in_err-push-in-Some-clause-told
returns-in_err-push-in-Some-clause-told g c =
    let p = g.D.Domain.plain c.args.task.now.domain.now in
    let value_of = g.D.Domain.value_of in
    let program = c.args.task.now.program.now in
    let limit = c.args.task.now.limit in
    let y = key_name value_of c.args.name in
    let old = state_of value_of p c.args.table.now.rows c.args.arcs.now in
    let told = g.W.Work.entries c.args.work.now in
    let new = state_of value_of p c.place.new.table.rows c.place.new.arcs in
    let later = g.W.Work.entries c.place.new.work in
    let laws = g.met.D.Domain.lawful c.args.task.now.domain.now in
    let placed : Places p program limit y old told new later (Some c.in-Some.row) = subst
    (Places p program limit y old told new later) c.in-Some.is c.in_ok-row.ensures.placed in
    err_any _ c.from_residual-in_err-push-in-Some.result
    (λ begun cost unmet n i called left placing.
    placed_legal p program limit y old told laws c.requires.well_formed begun cost unmet n i called c.args.rows.now.items left c.args.full placing new later
    (Some c.in-Some.row) placed)

pub returns-in_ok-push-in-Some-clause-placing : goal.returns-in_ok-push-in-Some-clause-placing
returns-in_ok-push-in-Some-clause-placing g c =
    let p = g.D.Domain.plain c.args.task.now.domain.now in
    let value_of = g.D.Domain.value_of in
    let program = c.args.task.now.program.now in
    let limit = c.args.task.now.limit in
    let y = key_name value_of c.args.name in
    let old = state_of value_of p c.args.table.now.rows c.args.arcs.now in
    let told = g.W.Work.entries c.args.work.now in
    let new = state_of value_of p c.place.new.table.rows c.place.new.arcs in
    let later = g.W.Work.entries c.place.new.work in
    let laws = g.met.D.Domain.lawful c.args.task.now.domain.now in
    let placed : Places p program limit y old told new later (Some c.in-Some.row) = subst
    (Places p program limit y old told new later) c.in-Some.is c.in_ok-row.ensures.placed in
    λ begun cost unmet n i called left placing.
    placed_row p program limit y old told laws c.requires.well_formed begun cost unmet n i called c.args.rows.now.items left c.args.full placing new later
    c.in-Some.row c.push.new.self.items placed
    c.in_ok-push-in-Some.ensures.items

pub returns-in_ok-push-in-Some-clause-of_rows : goal.returns-in_ok-push-in-Some-clause-of_rows
returns-in_ok-push-in-Some-clause-of_rows g c =
    let p = g.D.Domain.plain c.args.task.now.domain.now in
    let value_of = g.D.Domain.value_of in
    let program = c.args.task.now.program.now in
    let limit = c.args.task.now.limit in
    let y = key_name value_of c.args.name in
    let old = state_of value_of p c.args.table.now.rows c.args.arcs.now in
    let told = g.W.Work.entries c.args.work.now in
    let new = state_of value_of p c.place.new.table.rows c.place.new.arcs in
    let later = g.W.Work.entries c.place.new.work in
    let placed : Places p program limit y old told new later (Some c.in-Some.row) = subst
    (Places p program limit y old told new later) c.in-Some.is c.in_ok-row.ensures.placed in
    places_rows p program limit y old told new later (Some c.in-Some.row) placed c.requires.of_rows

pub returns-in_ok-push-in-Some-clause-adds : goal.returns-in_ok-push-in-Some-clause-adds
returns-in_ok-push-in-Some-clause-adds g c =
    let p = g.D.Domain.plain c.args.task.now.domain.now in
    let value_of = g.D.Domain.value_of in
    let program = c.args.task.now.program.now in
    let limit = c.args.task.now.limit in
    let y = key_name value_of c.args.name in
    let old = state_of value_of p c.args.table.now.rows c.args.arcs.now in
    let told = g.W.Work.entries c.args.work.now in
    let new = state_of value_of p c.place.new.table.rows c.place.new.arcs in
    let later = g.W.Work.entries c.place.new.work in
    let placed : Places p program limit y old told new later (Some c.in-Some.row) = subst
    (Places p program limit y old told new later) c.in-Some.is c.in_ok-row.ensures.placed in
    places_adds p program limit y old told new later (Some c.in-Some.row) placed

pub returns-in_ok-push-in-Some-clause-extends : goal.returns-in_ok-push-in-Some-clause-extends
returns-in_ok-push-in-Some-clause-extends g c =
    let p = g.D.Domain.plain c.args.task.now.domain.now in
    let value_of = g.D.Domain.value_of in
    let program = c.args.task.now.program.now in
    let limit = c.args.task.now.limit in
    let y = key_name value_of c.args.name in
    let old = state_of value_of p c.args.table.now.rows c.args.arcs.now in
    let told = g.W.Work.entries c.args.work.now in
    let new = state_of value_of p c.place.new.table.rows c.place.new.arcs in
    let later = g.W.Work.entries c.place.new.work in
    let placed : Places p program limit y old told new later (Some c.in-Some.row) = subst
    (Places p program limit y old told new later) c.in-Some.is c.in_ok-row.ensures.placed in
    places_extends p program limit y old told new later (Some c.in-Some.row) placed

pub returns-in-None-clause-placing : goal.returns-in-None-clause-placing
returns-in-None-clause-placing g c =
    let p = g.D.Domain.plain c.args.task.now.domain.now in
    let value_of = g.D.Domain.value_of in
    let program = c.args.task.now.program.now in
    let limit = c.args.task.now.limit in
    let y = key_name value_of c.args.name in
    let old = state_of value_of p c.args.table.now.rows c.args.arcs.now in
    let told = g.W.Work.entries c.args.work.now in
    let new = state_of value_of p c.place.new.table.rows c.place.new.arcs in
    let later = g.W.Work.entries c.place.new.work in
    let laws = g.met.D.Domain.lawful c.args.task.now.domain.now in
    let placed : Places p program limit y old told new later None = subst (Places p program limit y old told new later) c.in-None.is
    c.in_ok-row.ensures.placed in
    λ begun cost unmet n i called left placing.
    placed_none p program limit y old told laws c.requires.well_formed begun cost unmet n i called c.args.rows.now.items left c.args.full placing new later
    placed

pub returns-in-None-clause-of_rows : goal.returns-in-None-clause-of_rows
returns-in-None-clause-of_rows g c =
    let p = g.D.Domain.plain c.args.task.now.domain.now in
    let value_of = g.D.Domain.value_of in
    let program = c.args.task.now.program.now in
    let limit = c.args.task.now.limit in
    let y = key_name value_of c.args.name in
    let old = state_of value_of p c.args.table.now.rows c.args.arcs.now in
    let told = g.W.Work.entries c.args.work.now in
    let new = state_of value_of p c.place.new.table.rows c.place.new.arcs in
    let later = g.W.Work.entries c.place.new.work in
    let placed : Places p program limit y old told new later None = subst (Places p program limit y old told new later) c.in-None.is
    c.in_ok-row.ensures.placed in
    places_rows p program limit y old told new later None placed c.requires.of_rows

pub returns-in-None-clause-adds : goal.returns-in-None-clause-adds
returns-in-None-clause-adds g c =
    let p = g.D.Domain.plain c.args.task.now.domain.now in
    let value_of = g.D.Domain.value_of in
    let program = c.args.task.now.program.now in
    let limit = c.args.task.now.limit in
    let y = key_name value_of c.args.name in
    let old = state_of value_of p c.args.table.now.rows c.args.arcs.now in
    let told = g.W.Work.entries c.args.work.now in
    let new = state_of value_of p c.place.new.table.rows c.place.new.arcs in
    let later = g.W.Work.entries c.place.new.work in
    let placed : Places p program limit y old told new later None = subst (Places p program limit y old told new later) c.in-None.is
    c.in_ok-row.ensures.placed in
    places_adds p program limit y old told new later None placed

pub returns-in-None-clause-extends : goal.returns-in-None-clause-extends
returns-in-None-clause-extends g c =
    let p = g.D.Domain.plain c.args.task.now.domain.now in
    let value_of = g.D.Domain.value_of in
    let program = c.args.task.now.program.now in
    let limit = c.args.task.now.limit in
    let y = key_name value_of c.args.name in
    let old = state_of value_of p c.args.table.now.rows c.args.arcs.now in
    let told = g.W.Work.entries c.args.work.now in
    let new = state_of value_of p c.place.new.table.rows c.place.new.arcs in
    let later = g.W.Work.entries c.place.new.work in
    let placed : Places p program limit y old told new later None = subst (Places p program limit y old told new later) c.in-None.is
    c.in_ok-row.ensures.placed in
    places_extends p program limit y old told new later None placed
