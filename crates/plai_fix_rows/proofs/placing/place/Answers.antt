use Rattle.std.proofs.Common.{◌≡◌, ◌≤◌, ◌<◌, [], ◌∷◌, ◌++◌, length, slice_get, Some, None, position, heap_items, sym, refl, ap, ◌∙◌, subst, arith, rules}
use Rattle.plai_clauses.specs.Program.{clauses_of}
use Rattle.plai_table.specs.Rows.{names_of, live_count, new_row}
use Rattle.plai_arcs.specs.Arcs.{is_dirty, is_call}
use Rattle.plai_eval.specs.Meaning.{as_domain}
use Rattle.plai_fix_rows.specs.Tables.{key_name, kept_row, kept_rows, state_of}
use Rattle.plai_fix_laws.specs.Queues.{IsQueued}
use Rattle.plai_fix_rows.specs.Solving.{Places, IsThere, IsLacking}
use Rattle.plai_fix_rows.proofs.Keys.{same_key, found_named, absent_named}
use Rattle.plai_fix_rows.proofs.Makings.{makes, map_push}
use Rattle.plai_fix_laws.proofs.Extended.{queued_push}
use Rattle.plai_fix_rows.proofs.TableRows.{last_name, kept_lives, kept_length, fresh_row, not_full}
use Rattle.plai_fix_rows.proofs.Placed.{placed_made}
use Rattle.plai_fix_rows.proofs.placing.place.Goals as goal

pub returns-in-Some-clause-placed : goal.returns-in-Some-clause-placed
returns-in-Some-clause-placed g c =
    let value_of = g.D.Domain.value_of in
    let p = g.D.Domain.plain c.args.task.now.domain.now in
    let rows = c.args.table.now.rows in
    let at : position (same_key _ value_of g.D.Value.PartialEq.eq g.met.D.Domain.equal c.args.name)
    (names_of rows) ≡ Some c.in-Some.row = sym c.in-Some.ensures in
    IsThere c.in-Some.row (found_named _ value_of g.D.Value.PartialEq.eq g.met.D.Domain.equal p c.args.name rows c.in-Some.row at)

pub returns-in_ok-begin_row-in-Ok-clause-placed : goal.returns-in_ok-begin_row-in-Ok-clause-placed
returns-in_ok-begin_row-in-Ok-clause-placed g c =
    let value_of = g.D.Domain.value_of in
    let p = g.D.Domain.plain c.args.task.now.domain.now in
    let program = c.args.task.now.program.now in
    let rows = c.args.table.now.rows in
    let none : position (same_key _ value_of g.D.Value.PartialEq.eq g.met.D.Domain.equal c.args.name) (names_of rows) ≡ None = search rules in
    let room : live_count rows < c.args.task.now.limit = not_full (live_count rows) c.args.task.now.limit (λ l. let e = c.in-Ok.ensures.full.1 l in cc) in
    let lives = kept_lives _ value_of p rows in
    let (at, added) = c.in-Ok.ensures.ok in
    let named : slice_get (names_of c.add.new.self.rows) c.in-Ok.row ≡ Some c.args.name =
    subst (λ rs. slice_get (names_of rs) c.in-Ok.row ≡ Some c.args.name) (sym added)
    (subst (λ n. slice_get (names_of (rows ++ new_row c.args.name ∷ [])) n ≡ Some c.args.name) (sym at) (last_name _ value_of p rows (new_row c.args.name))) in
    placed_made p program c.args.task.now.limit (key_name value_of c.args.name) (state_of value_of p rows c.args.arcs.now) (g.W.Work.entries c.args.work.now)
    (state_of value_of p c.add.new.self.rows c.begin_row.new.arcs) (g.W.Work.entries c.begin_row.new.work) c.in-Ok.row
    (absent_named _ value_of g.D.Value.PartialEq.eq g.met.D.Domain.equal p c.args.name rows none) (omega arith)
    (makes _ value_of p program rows (is_dirty c.args.arcs.now) (is_dirty c.begin_row.new.arcs) (is_call c.args.arcs.now)
    (is_call c.begin_row.new.arcs) c.in_ok-begin_row-in-Ok.ensures.calls
    c.args.name c.in-Ok.row (length (clauses_of program c.args.name.pred)) at refl (fresh_row _ value_of p rows (is_dirty c.args.arcs.now) c.requires)
    (c.in_ok-begin_row-in-Ok.ensures.dirty c.args.name named)
    c.add.new.self.rows added)
    (at ∙ sym (kept_length _ value_of p rows)) (c.in_ok-begin_row-in-Ok.ensures.noted c.args.name named)

pub returns-in-Err-Full-clause-placed : goal.returns-in-Err-Full-clause-placed
returns-in-Err-Full-clause-placed g c =
    let value_of = g.D.Domain.value_of in
    let p = g.D.Domain.plain c.args.task.now.domain.now in
    let program = c.args.task.now.program.now in
    let rows = c.args.table.now.rows in
    let none : position (same_key _ value_of g.D.Value.PartialEq.eq g.met.D.Domain.equal c.args.name) (names_of rows) ≡ None = search rules in
    let same : c.add.new.self.rows ≡ rows = search rules in
    let met : c.args.task.now.limit ≤ live_count rows = search rules in
    let lives = kept_lives _ value_of p rows in
    subst (λ rs. Places p program c.args.task.now.limit (key_name value_of c.args.name) (state_of value_of p rows c.args.arcs.now)
    (g.W.Work.entries c.args.work.now)
    (state_of value_of p rs c.args.arcs.now) (g.W.Work.entries c.args.work.now) None) (sym same)
    (IsLacking (absent_named _ value_of g.D.Value.PartialEq.eq g.met.D.Domain.equal p c.args.name rows none) (omega arith))

pub returns-in_ok-begin_row-in-Ok-clause-queued : goal.returns-in_ok-begin_row-in-Ok-clause-queued
returns-in_ok-begin_row-in-Ok-clause-queued g c =
    let value_of = g.D.Domain.value_of in
    let p = g.D.Domain.plain c.args.task.now.domain.now in
    let rows = c.args.table.now.rows in
    let (at, added) = c.in-Ok.ensures.ok in
    λ queued.
    c.in_ok-begin_row-in-Ok.ensures.queued
    (queued_push (as_domain p) (state_of value_of p rows c.args.arcs.now) (state_of value_of p c.add.new.self.rows c.args.arcs.now)
    (kept_row value_of p (new_row c.args.name)) (heap_items c.args.queue.now) queued c.requires
    (ap (kept_rows value_of p) added ∙ map_push (kept_row value_of p) rows (new_row c.args.name)) (λ n m. refl))

pub returns-in-Err-Full-clause-queued : goal.returns-in-Err-Full-clause-queued
returns-in-Err-Full-clause-queued g c =
    let value_of = g.D.Domain.value_of in
    let p = g.D.Domain.plain c.args.task.now.domain.now in
    let rows = c.args.table.now.rows in
    let same : c.add.new.self.rows ≡ rows = search rules in
    λ queued. subst (λ rs. IsQueued (state_of value_of p rs c.args.arcs.now) (heap_items c.args.queue.now)) (sym same) queued
