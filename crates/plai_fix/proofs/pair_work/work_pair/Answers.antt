use Rattle.std.proofs.Common.{◌+◌, ◌-◌, false, nat_eq, List, None, map, heap_items, sym, refl, ap, ◌∙◌, subst, arith, rules}
use Rattle.std.specs.Option.{option_map}
use Rattle.std.specs.List.{list_any}
use Rattle.plai_theory.specs.Domain.{Name}
use Rattle.plai_theory.specs.LegalWork.{IsLegalLog}
use Rattle.plai_terms.specs.declared.abs.Abs.{Abs}
use Rattle.plai_terms.specs.declared.pred_key.PredKey.{PredKey}
use Rattle.plai_arcs.specs.Arcs.{is_dirty}
use Rattle.plai_eval.specs.Meaning.{as_domain, as_limits, as_program}
use Rattle.plai_fix_laws.specs.LookUps.{Looks}
use Rattle.plai_fix_laws.specs.Logs.{IsWorking}
use Rattle.plai_fix_laws.specs.Pairs.{Links}
use Rattle.plai_fix_rows.specs.Tables.{key_name, kept_row, kept_rows, state_of}
use Rattle.plai_fix_rows.specs.Told.{start_of, HasLog}
use Rattle.plai_fix_rows.specs.Moves.{Moves}
use Rattle.plai_fix_laws.proofs.Extended.{extends_then}
use Rattle.plai_fix_laws.proofs.Linked.{links_as}
use Rattle.plai_fix_rows.proofs.TableRows.{kept_at}
use Rattle.plai_fix_rows.proofs.Telling.{has_less}
use Rattle.plai_fix.proofs.GrownPairs.{alike_told}
use Rattle.plai_fix.proofs.Shifted.{moves_all}
use Rattle.plai_fix.proofs.Works.{looks_links, links_told, grown_of_rows, queued_less}
use Rattle.plai_fix.proofs.pair_work.work_pair.Goals as goal

pub settle_answer-requires-clause-alike : goal.settle_answer-requires-clause-alike
settle_answer-requires-clause-alike g c =
    let p = g.D.Domain.plain c.args.task.now.domain.now in
    let value_of = g.D.Domain.value_of in
    let program = c.args.task.now.program.now in
    let limit = c.args.task.now.limit in
    let laws = g.met.D.Domain.lawful c.args.task.now.domain.now in
    let good = c.requires.1.1.1.1.1.0 in
    let rows = c.args.table.now.rows in
    let called = map (key_name value_of) c.in_ok-answer.field-0.calls in
    let answer = option_map value_of c.in_ok-answer.field-0.answer in
    let cost = c.evaluate_due.new.steps - g.begun.steps + 1 in
    let mid = state_of value_of p rows c.evaluate_due.new.arcs in
    let linked = state_of value_of p rows c.link_calls.new.arcs in
    let looks : Looks (as_domain p) (kept_rows value_of p rows) called c.link_calls.new.rows.items (map (key_name value_of) c.link_calls.new.missing.items) =
    subst (λ (ns : List (Name PredKey Abs)). Looks (as_domain p) (kept_rows value_of p rows) ns c.link_calls.new.rows.items
    (map (key_name value_of) c.link_calls.new.missing.items))
    (ap (map (key_name value_of)) (c.into_vec.ensures)) c.in_ok-link_calls.ensures.looks in
    let past =
    links_told p laws program good limit g.begun.origin (g.W.Work.entries c.evaluate_due.new.work) cost mid (is_dirty c.evaluate_due.new.unmet) c.args.row
    (c.args.number - 1) called answer
    c.in_ok-answer.ensures.evaluated linked c.link_calls.new.rows.items (map (key_name value_of) c.link_calls.new.missing.items) looks
    c.in_ok-link_calls.ensures.sets in
    λ r a b at e f.
    alike_told p laws program good limit g.begun.origin (g.W.Work.entries c.evaluate_due.new.work) cost linked (is_dirty c.evaluate_due.new.unmet) c.args.row
    (c.args.number - 1) called answer past
    (kept_row value_of p r) (kept_at _ value_of p rows c.args.row r at) (value_of a) (value_of b) (ap (option_map value_of) e) (ap (option_map value_of) f)

pub place_called-requires-clause-of_rows : goal.place_called-requires-clause-of_rows
place_called-requires-clause-of_rows g c =
    let p = g.D.Domain.plain c.args.task.now.domain.now in
    let value_of = g.D.Domain.value_of in
    let program = c.args.task.now.program.now in
    let limit = c.args.task.now.limit in
    let laws = g.met.D.Domain.lawful c.args.task.now.domain.now in
    let good = c.requires.1.1.1.1.1.0 in
    let rows = c.args.table.now.rows in
    let called = map (key_name value_of) c.in_ok-answer.field-0.calls in
    let answer = option_map value_of c.in_ok-answer.field-0.answer in
    let cost = c.evaluate_due.new.steps - g.begun.steps + 1 in
    let mid = state_of value_of p rows c.evaluate_due.new.arcs in
    let linked = state_of value_of p rows c.link_calls.new.arcs in
    let looks : Looks (as_domain p) (kept_rows value_of p rows) called c.link_calls.new.rows.items (map (key_name value_of) c.link_calls.new.missing.items) =
    subst (λ (ns : List (Name PredKey Abs)). Looks (as_domain p) (kept_rows value_of p rows) ns c.link_calls.new.rows.items
    (map (key_name value_of) c.link_calls.new.missing.items))
    (ap (map (key_name value_of)) (c.into_vec.ensures)) c.in_ok-link_calls.ensures.looks in
    let past =
    links_told p laws program good limit g.begun.origin (g.W.Work.entries c.evaluate_due.new.work) cost mid (is_dirty c.evaluate_due.new.unmet) c.args.row
    (c.args.number - 1) called answer
    c.in_ok-answer.ensures.evaluated linked c.link_calls.new.rows.items (map (key_name value_of) c.link_calls.new.missing.items) looks
    c.in_ok-link_calls.ensures.sets in
    let grown = c.in_ok-grown.ensures.settled g.begun.origin cost (is_dirty c.evaluate_due.new.unmet) (c.args.number - 1) called past in
    grown_of_rows p laws program good limit g.begun.origin (g.W.Work.entries c.settle_answer.new.work) cost
    (state_of value_of p c.settle_answer.new.table.rows c.settle_answer.new.arcs)
    (is_dirty c.evaluate_due.new.unmet) c.args.row (c.args.number - 1) called _ grown.0

pub returns-in_err-placed-clause-stops : goal.returns-in_err-placed-clause-stops
returns-in_err-placed-clause-stops g c =
    let p = g.D.Domain.plain c.args.task.now.domain.now in
    let value_of = g.D.Domain.value_of in
    let program = c.args.task.now.program.now in
    let limit = c.args.task.now.limit in
    let laws = g.met.D.Domain.lawful c.args.task.now.domain.now in
    let good = c.requires.1.1.1.1.1.0 in
    let rows = c.args.table.now.rows in
    let called = map (key_name value_of) c.in_ok-answer.field-0.calls in
    let answer = option_map value_of c.in_ok-answer.field-0.answer in
    let cost = c.evaluate_due.new.steps - g.begun.steps + 1 in
    let mid = state_of value_of p rows c.evaluate_due.new.arcs in
    let linked = state_of value_of p rows c.link_calls.new.arcs in
    let looks : Looks (as_domain p) (kept_rows value_of p rows) called c.link_calls.new.rows.items (map (key_name value_of) c.link_calls.new.missing.items) =
    subst (λ (ns : List (Name PredKey Abs)). Looks (as_domain p) (kept_rows value_of p rows) ns c.link_calls.new.rows.items
    (map (key_name value_of) c.link_calls.new.missing.items))
    (ap (map (key_name value_of)) (c.into_vec.ensures)) c.in_ok-link_calls.ensures.looks in
    let past =
    links_told p laws program good limit g.begun.origin (g.W.Work.entries c.evaluate_due.new.work) cost mid (is_dirty c.evaluate_due.new.unmet) c.args.row
    (c.args.number - 1) called answer
    c.in_ok-answer.ensures.evaluated linked c.link_calls.new.rows.items (map (key_name value_of) c.link_calls.new.missing.items) looks
    c.in_ok-link_calls.ensures.sets in
    let grown = c.in_ok-grown.ensures.settled g.begun.origin cost (is_dirty c.evaluate_due.new.unmet) (c.args.number - 1) called past in
    let links : Links (as_domain p) (kept_rows value_of p c.settle_answer.new.table.rows) called (λ j. list_any (nat_eq j) c.link_calls.new.rows.items)
    (map (key_name value_of) c.link_calls.new.missing.items) false =
    links_as (as_domain p) (kept_rows value_of p rows) (kept_rows value_of p c.settle_answer.new.table.rows) called
    (map (key_name value_of) c.link_calls.new.missing.items)
    (λ j. list_any (nat_eq j) c.link_calls.new.rows.items) c.in_ok-grown.ensures.extends.names
    (looks_links (as_domain p) (kept_rows value_of p rows) called c.link_calls.new.rows.items (map (key_name value_of) c.link_calls.new.missing.items) looks) in
    let told : HasLog p program g.begun.origin.told (g.W.Work.entries c.place_called.new.work) 0
    (IsLegalLog (as_domain p) (as_program p program) limit (start_of p g.begun.origin)) =
    c.in_err-placed.ensures.told g.begun.origin cost called grown.0 links in
    search (rules, told)

pub returns-clause-at_work : goal.returns-clause-at_work
returns-clause-at_work g c =
    let p = g.D.Domain.plain c.args.task.now.domain.now in
    let value_of = g.D.Domain.value_of in
    let program = c.args.task.now.program.now in
    let limit = c.args.task.now.limit in
    let laws = g.met.D.Domain.lawful c.args.task.now.domain.now in
    let good = c.requires.1.1.1.1.1.0 in
    let rows = c.args.table.now.rows in
    let called = map (key_name value_of) c.in_ok-answer.field-0.calls in
    let answer = option_map value_of c.in_ok-answer.field-0.answer in
    let cost = c.evaluate_due.new.steps - g.begun.steps + 1 in
    let mid = state_of value_of p rows c.evaluate_due.new.arcs in
    let linked = state_of value_of p rows c.link_calls.new.arcs in
    let looks : Looks (as_domain p) (kept_rows value_of p rows) called c.link_calls.new.rows.items (map (key_name value_of) c.link_calls.new.missing.items) =
    subst (λ (ns : List (Name PredKey Abs)). Looks (as_domain p) (kept_rows value_of p rows) ns c.link_calls.new.rows.items
    (map (key_name value_of) c.link_calls.new.missing.items))
    (ap (map (key_name value_of)) (c.into_vec.ensures)) c.in_ok-link_calls.ensures.looks in
    let past =
    links_told p laws program good limit g.begun.origin (g.W.Work.entries c.evaluate_due.new.work) cost mid (is_dirty c.evaluate_due.new.unmet) c.args.row
    (c.args.number - 1) called answer
    c.in_ok-answer.ensures.evaluated linked c.link_calls.new.rows.items (map (key_name value_of) c.link_calls.new.missing.items) looks
    c.in_ok-link_calls.ensures.sets in
    let grown = c.in_ok-grown.ensures.settled g.begun.origin cost (is_dirty c.evaluate_due.new.unmet) (c.args.number - 1) called past in
    let links : Links (as_domain p) (kept_rows value_of p c.settle_answer.new.table.rows) called (λ j. list_any (nat_eq j) c.link_calls.new.rows.items)
    (map (key_name value_of) c.link_calls.new.missing.items) false =
    links_as (as_domain p) (kept_rows value_of p rows) (kept_rows value_of p c.settle_answer.new.table.rows) called
    (map (key_name value_of) c.link_calls.new.missing.items)
    (λ j. list_any (nat_eq j) c.link_calls.new.rows.items) c.in_ok-grown.ensures.extends.names
    (looks_links (as_domain p) (kept_rows value_of p rows) called c.link_calls.new.rows.items (map (key_name value_of) c.link_calls.new.missing.items) looks) in
    let done = c.in_ok-placed.ensures.at_work g.begun.origin cost called grown.0 links in
    has_less p program g.begun.origin.told (g.W.Work.entries c.place_called.new.work) cost
    (λ log. IsWorking (as_domain p) (as_program p program) (as_limits p) limit (start_of p g.begun.origin) log
    (state_of value_of p c.place_called.new.table.rows c.place_called.new.arcs) None None
    (is_dirty c.place_called.new.unmet)) _ done (c.settle_answer.new.steps - g.begun.steps) (omega (arith, c.settle_answer.ensures.cost)) (λ w. w)

pub returns-clause-queued : goal.returns-clause-queued
returns-clause-queued g c =
    let p = g.D.Domain.plain c.args.task.now.domain.now in
    let value_of = g.D.Domain.value_of in
    let rows = c.args.table.now.rows in
    let mid = queued_less (as_domain p) (state_of value_of p rows c.args.arcs.now) (state_of value_of p rows c.evaluate_due.new.arcs)
    (heap_items c.args.queue.now) refl c.in_ok-answer.ensures.dirty c.requires.1.1.1.1.1.1.1.1.1 in
    c.in_ok-placed.ensures.queued (c.in_ok-grown.ensures.queued
    (queued_less (as_domain p) (state_of value_of p rows c.evaluate_due.new.arcs) (state_of value_of p rows c.link_calls.new.arcs)
    (heap_items c.args.queue.now) refl (λ n m e. sym (c.in_ok-link_calls.ensures.sets.dirty n m) ∙ e) mid))

pub returns-clause-moves : goal.returns-clause-moves
returns-clause-moves g c =
    let p = g.D.Domain.plain c.args.task.now.domain.now in
    let value_of = g.D.Domain.value_of in
    let program = c.args.task.now.program.now in
    let limit = c.args.task.now.limit in
    let laws = g.met.D.Domain.lawful c.args.task.now.domain.now in
    let good = c.requires.1.1.1.1.1.0 in
    let rows = c.args.table.now.rows in
    let called = map (key_name value_of) c.in_ok-answer.field-0.calls in
    let answer = option_map value_of c.in_ok-answer.field-0.answer in
    let cost = c.evaluate_due.new.steps - g.begun.steps + 1 in
    let mid = state_of value_of p rows c.evaluate_due.new.arcs in
    let linked = state_of value_of p rows c.link_calls.new.arcs in
    let looks : Looks (as_domain p) (kept_rows value_of p rows) called c.link_calls.new.rows.items (map (key_name value_of) c.link_calls.new.missing.items) =
    subst (λ (ns : List (Name PredKey Abs)). Looks (as_domain p) (kept_rows value_of p rows) ns c.link_calls.new.rows.items
    (map (key_name value_of) c.link_calls.new.missing.items))
    (ap (map (key_name value_of)) (c.into_vec.ensures)) c.in_ok-link_calls.ensures.looks in
    let past =
    links_told p laws program good limit g.begun.origin (g.W.Work.entries c.evaluate_due.new.work) cost mid (is_dirty c.evaluate_due.new.unmet) c.args.row
    (c.args.number - 1) called answer
    c.in_ok-answer.ensures.evaluated linked c.link_calls.new.rows.items (map (key_name value_of) c.link_calls.new.missing.items) looks
    c.in_ok-link_calls.ensures.sets in
    let grown = c.in_ok-grown.ensures.settled g.begun.origin cost (is_dirty c.evaluate_due.new.unmet) (c.args.number - 1) called past in
    let before = state_of value_of p rows c.args.arcs.now in
    let raised = state_of value_of p c.settle_answer.new.table.rows c.settle_answer.new.arcs in
    let new = state_of value_of p c.place_called.new.table.rows c.place_called.new.arcs in
    subst (Moves (as_domain p) (as_program p program) limit (λ pred. p.rank) before new) (sym c.and.ensures)
    (moves_all (as_domain p) (as_program p program) limit (λ pred. p.rank) before mid linked raised new c.args.row (c.args.number - 1)
    (λ j. list_any (nat_eq j) c.link_calls.new.rows.items)
    c.in_ok-grown.grown c.in_ok-placed.placed c.in_ok-answer.ensures.moves c.in_ok-link_calls.ensures.sets grown.1 c.in_ok-placed.ensures.shifts)

pub returns-clause-extends : goal.returns-clause-extends
returns-clause-extends g c =
    let p = g.D.Domain.plain c.args.task.now.domain.now in
    let value_of = g.D.Domain.value_of in
    extends_then (as_domain p) (kept_rows value_of p c.args.table.now.rows) (kept_rows value_of p c.settle_answer.new.table.rows)
    (kept_rows value_of p c.place_called.new.table.rows)
    c.in_ok-grown.ensures.extends c.in_ok-placed.ensures.extends
