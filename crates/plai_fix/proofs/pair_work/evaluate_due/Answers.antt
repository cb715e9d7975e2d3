use Rattle.std.proofs.Common.{◌≡◌, ◌<◌, ◌+◌, ◌-◌, Some, length, slice_get, map, IfErr, arith, rules}
use Rattle.std.specs.Option.{option_map}
use Rattle.plai_domain.specs.declared.key.Key.{Key}
use Rattle.plai_clauses.specs.Program.{clauses_of}
use Rattle.plai_table.specs.Rows.{names_of}
use Rattle.plai_arcs.specs.Arcs.{is_dirty}
use Rattle.plai_fix_rows.specs.Tables.{key_name, kept_rows, state_of}
use Rattle.plai_fix.specs.Evaluating.{TellsOver}
use Rattle.plai_fix_rows.proofs.Parts.{if_err}
use Rattle.plai_fix_rows.proofs.TableRows.{named_at, name_there, is_there}
use Rattle.plai_fix.proofs.Evaluations.{name_fits, answers_fit, number_fits, evaluates_told, evaluation_moves, evaluation_stops, clause_in}
use Rattle.plai_fix.proofs.pair_work.evaluate_due.Goals as goal

pub due_clause-clause-requires-clause-row : goal.due_clause-clause-requires-clause-row
due_clause-clause-requires-clause-row g c =
    is_there _ g.D.Domain.value_of (g.D.Domain.plain c.args.task.now.domain.now) c.args.table.now.rows c.args.row
    (c.requires.1.1.1.1.1.1.0.is.logged.keeps.dirty_rows c.args.row c.args.number c.requires.1.1.1.1.1.1.1.0)

pub due_clause-clause-requires-clause-there : goal.due_clause-clause-requires-clause-there
due_clause-clause-requires-clause-there g c =
    let p = g.D.Domain.plain c.args.task.now.domain.now in
    let rows = c.args.table.now.rows in
    let laws = g.met.D.Domain.lawful c.args.task.now.domain.now in
    λ name e.
    (number_fits p laws c.args.task.now.program.now c.requires.1.1.1.1.1.0 c.args.task.now.limit g.begun.origin (g.W.Work.entries c.args.work.now)
    (c.args.steps.now - g.begun.steps)
    (state_of g.D.Domain.value_of p rows c.args.arcs.now) (is_dirty c.args.unmet.now) c.requires.1.1.1.1.1.1.0 c.args.row c.args.number
    (key_name g.D.Domain.value_of name)
    (named_at _ g.D.Domain.value_of p rows c.args.row name e) c.requires.1.1.1.1.1.1.1.0 c.requires.1.1.1.1.1.1.1.1).1

pub due_clause-clause-requires-clause-number : goal.due_clause-clause-requires-clause-number
due_clause-clause-requires-clause-number g c =
    let p = g.D.Domain.plain c.args.task.now.domain.now in
    let rows = c.args.table.now.rows in
    let laws = g.met.D.Domain.lawful c.args.task.now.domain.now in
    let here : c.args.row < length rows = is_there _ g.D.Domain.value_of p rows c.args.row
    (c.requires.1.1.1.1.1.1.0.is.logged.keeps.dirty_rows c.args.row c.args.number c.requires.1.1.1.1.1.1.1.0) in
    let (name, e) = name_there _ g.D.Domain.value_of p rows c.args.row here in
    (number_fits p laws c.args.task.now.program.now c.requires.1.1.1.1.1.0 c.args.task.now.limit g.begun.origin (g.W.Work.entries c.args.work.now)
    (c.args.steps.now - g.begun.steps)
    (state_of g.D.Domain.value_of p rows c.args.arcs.now) (is_dirty c.args.unmet.now) c.requires.1.1.1.1.1.1.0 c.args.row c.args.number
    (key_name g.D.Domain.value_of name)
    (named_at _ g.D.Domain.value_of p rows c.args.row name e) c.requires.1.1.1.1.1.1.1.0 c.requires.1.1.1.1.1.1.1.1).0

pub evaluate_pair-requires-clause-row : goal.evaluate_pair-requires-clause-row
evaluate_pair-requires-clause-row g c =
    is_there _ g.D.Domain.value_of (g.D.Domain.plain c.args.task.now.domain.now) c.args.table.now.rows c.args.row
    (c.requires.1.1.1.1.1.1.0.is.logged.keeps.dirty_rows c.args.row c.args.number c.requires.1.1.1.1.1.1.1.0)

pub evaluate_pair-requires-clause-number : goal.evaluate_pair-requires-clause-number
evaluate_pair-requires-clause-number g c =
    let p = g.D.Domain.plain c.args.task.now.domain.now in
    let rows = c.args.table.now.rows in
    let laws = g.met.D.Domain.lawful c.args.task.now.domain.now in
    let here : c.args.row < length rows = is_there _ g.D.Domain.value_of p rows c.args.row
    (c.requires.1.1.1.1.1.1.0.is.logged.keeps.dirty_rows c.args.row c.args.number c.requires.1.1.1.1.1.1.1.0) in
    let (name, e) = name_there _ g.D.Domain.value_of p rows c.args.row here in
    (number_fits p laws c.args.task.now.program.now c.requires.1.1.1.1.1.0 c.args.task.now.limit g.begun.origin (g.W.Work.entries c.args.work.now)
    (c.args.steps.now - g.begun.steps)
    (state_of g.D.Domain.value_of p rows c.args.arcs.now) (is_dirty c.args.unmet.now) c.requires.1.1.1.1.1.1.0 c.args.row c.args.number
    (key_name g.D.Domain.value_of name)
    (named_at _ g.D.Domain.value_of p rows c.args.row name e) c.requires.1.1.1.1.1.1.1.0 c.requires.1.1.1.1.1.1.1.1).0

pub evaluate_pair-requires-clause-clause : goal.evaluate_pair-requires-clause-clause
evaluate_pair-requires-clause-clause g c =
    let p = g.D.Domain.plain c.args.task.now.domain.now in
    let rows = c.args.table.now.rows in
    let here : c.args.row < length rows = is_there _ g.D.Domain.value_of p rows c.args.row
    (c.requires.1.1.1.1.1.1.0.is.logged.keeps.dirty_rows c.args.row c.args.number c.requires.1.1.1.1.1.1.1.0) in
    let (name, e) = name_there _ g.D.Domain.value_of p rows c.args.row here in
    c.requires.1.1.1.1.1.0.clauses name.pred c.due_clause-clause.result.now
    (clause_in (clauses_of c.args.task.now.program.now name.pred) (c.args.number - 1) c.due_clause-clause.result.now (c.due_clause-clause.ensures name e))

pub evaluate_pair-requires-clause-arity : goal.evaluate_pair-requires-clause-arity
evaluate_pair-requires-clause-arity g c = λ name e.
    c.requires.1.1.1.1.1.0.arities name.pred c.due_clause-clause.result.now
    (clause_in (clauses_of c.args.task.now.program.now name.pred) (c.args.number - 1) c.due_clause-clause.result.now (c.due_clause-clause.ensures name e))

pub evaluate_pair-requires-clause-call : goal.evaluate_pair-requires-clause-call
evaluate_pair-requires-clause-call g c =
    let p = g.D.Domain.plain c.args.task.now.domain.now in
    let rows = c.args.table.now.rows in
    let laws = g.met.D.Domain.lawful c.args.task.now.domain.now in
    λ name e.
    name_fits p laws c.args.task.now.program.now c.requires.1.1.1.1.1.0 c.args.task.now.limit g.begun.origin (g.W.Work.entries c.args.work.now)
    (c.args.steps.now - g.begun.steps)
    (state_of g.D.Domain.value_of p rows c.args.arcs.now) (is_dirty c.args.unmet.now) c.requires.1.1.1.1.1.1.0 c.args.row (key_name g.D.Domain.value_of name)
    (named_at _ g.D.Domain.value_of p rows c.args.row name e)

pub evaluate_pair-requires-clause-answers : goal.evaluate_pair-requires-clause-answers
evaluate_pair-requires-clause-answers g c =
    let p = g.D.Domain.plain c.args.task.now.domain.now in
    let laws = g.met.D.Domain.lawful c.args.task.now.domain.now in
    answers_fit p laws c.args.task.now.program.now c.requires.1.1.1.1.1.0 c.args.task.now.limit g.begun.origin (g.W.Work.entries c.args.work.now)
    (c.args.steps.now - g.begun.steps)
    (state_of g.D.Domain.value_of p c.args.table.now.rows c.args.arcs.now) (is_dirty c.args.unmet.now) c.requires.1.1.1.1.1.1.0

pub returns-in_err-evaluated-clause-stops : goal.returns-in_err-evaluated-clause-stops
returns-in_err-evaluated-clause-stops g c =
    let p = g.D.Domain.plain c.args.task.now.domain.now in
    let value_of = g.D.Domain.value_of in
    let rows = c.args.table.now.rows in
    let laws = g.met.D.Domain.lawful c.args.task.now.domain.now in
    let here : c.args.row < length rows = is_there _ g.D.Domain.value_of p rows c.args.row
    (c.requires.1.1.1.1.1.1.0.is.logged.keeps.dirty_rows c.args.row c.args.number c.requires.1.1.1.1.1.1.1.0) in
    let (name, e) = name_there _ g.D.Domain.value_of p rows c.args.row here in
    let told : IfErr c.from_residual.result (λ fail. (key : Key g.row.D-Value.Denot) → slice_get (names_of rows) c.args.row ≡ Some key
    → TellsOver p (kept_rows value_of p rows) (key_name value_of key) c.args.number c.due_clause-clause.result.now fail) = search rules in
    if_err _ _ c.from_residual.result told
    (λ fail h.
    evaluation_stops p laws c.args.task.now.program.now c.requires.1.1.1.1.1.0 c.args.task.now.limit g.begun.origin (g.W.Work.entries c.args.work.now)
    (c.args.steps.now - g.begun.steps)
    (state_of value_of p rows c.args.arcs.now) (is_dirty c.args.unmet.now) c.requires.1.1.1.1.1.1.0 c.args.row c.args.number (key_name value_of name)
    (named_at _ value_of p rows c.args.row name e) c.requires.1.1.1.1.1.1.1.0 c.requires.1.1.1.1.1.1.1.1 c.due_clause-clause.result.now
    (c.due_clause-clause.ensures name e)
    (g.W.Work.entries c.evaluate_pair.new.work) (c.evaluate_pair.new.steps - g.begun.steps) fail c.in_err-evaluated.ensures.nothing
    (omega (arith, c.evaluate_pair.ensures.cost)) (h name e))

pub returns-clause-evaluated : goal.returns-clause-evaluated
returns-clause-evaluated g c =
    let p = g.D.Domain.plain c.args.task.now.domain.now in
    let value_of = g.D.Domain.value_of in
    let rows = c.args.table.now.rows in
    let laws = g.met.D.Domain.lawful c.args.task.now.domain.now in
    let here : c.args.row < length rows = is_there _ g.D.Domain.value_of p rows c.args.row
    (c.requires.1.1.1.1.1.1.0.is.logged.keeps.dirty_rows c.args.row c.args.number c.requires.1.1.1.1.1.1.1.0) in
    let (name, e) = name_there _ g.D.Domain.value_of p rows c.args.row here in
    evaluates_told p laws c.args.task.now.program.now c.requires.1.1.1.1.1.0 c.args.task.now.limit g.begun.origin (g.W.Work.entries c.args.work.now)
    (c.args.steps.now - g.begun.steps)
    (state_of value_of p rows c.args.arcs.now) (is_dirty c.args.unmet.now) c.requires.1.1.1.1.1.1.0 c.args.row c.args.number (key_name value_of name)
    (named_at _ value_of p rows c.args.row name e) c.requires.1.1.1.1.1.1.1.0 c.requires.1.1.1.1.1.1.1.1 c.due_clause-clause.result.now
    (c.due_clause-clause.ensures name e)
    (state_of value_of p rows c.evaluate_pair.new.arcs) c.in_ok-evaluated.ensures.clears (is_dirty c.clear_dirty.new.self) c.clear_dirty.ensures.dirty
    (option_map value_of c.in_ok-evaluated.evaluated.answer) (map (key_name value_of) c.in_ok-evaluated.evaluated.calls) (c.in_ok-evaluated.ensures.ok name e)
    (g.W.Work.entries c.evaluate_pair.new.work) (c.evaluate_pair.new.steps - g.begun.steps + 1) (c.in_ok-evaluated.ensures.noted name e)
    (omega (arith, c.evaluate_pair.ensures.cost))

pub returns-clause-moves : goal.returns-clause-moves
returns-clause-moves g c =
    let p = g.D.Domain.plain c.args.task.now.domain.now in
    let value_of = g.D.Domain.value_of in
    let rows = c.args.table.now.rows in
    let laws = g.met.D.Domain.lawful c.args.task.now.domain.now in
    let here : c.args.row < length rows = is_there _ g.D.Domain.value_of p rows c.args.row
    (c.requires.1.1.1.1.1.1.0.is.logged.keeps.dirty_rows c.args.row c.args.number c.requires.1.1.1.1.1.1.1.0) in
    let (name, e) = name_there _ g.D.Domain.value_of p rows c.args.row here in
    evaluation_moves p laws c.args.task.now.program.now c.requires.1.1.1.1.1.0 c.args.task.now.limit g.begun.origin (g.W.Work.entries c.args.work.now)
    (c.args.steps.now - g.begun.steps)
    (state_of value_of p rows c.args.arcs.now) (is_dirty c.args.unmet.now) c.requires.1.1.1.1.1.1.0 c.args.row c.args.number (key_name value_of name)
    (named_at _ value_of p rows c.args.row name e) c.requires.1.1.1.1.1.1.1.0 c.requires.1.1.1.1.1.1.1.1 c.due_clause-clause.result.now
    (c.due_clause-clause.ensures name e)
    (state_of value_of p rows c.evaluate_pair.new.arcs) c.in_ok-evaluated.ensures.clears (is_dirty c.clear_dirty.new.self) c.clear_dirty.ensures.dirty
    (option_map value_of c.in_ok-evaluated.evaluated.answer) (map (key_name value_of) c.in_ok-evaluated.evaluated.calls) (c.in_ok-evaluated.ensures.ok name e)

pub returns-clause-some : goal.returns-clause-some
returns-clause-some g c =
    let p = g.D.Domain.plain c.args.task.now.domain.now in
    let rows = c.args.table.now.rows in
    let laws = g.met.D.Domain.lawful c.args.task.now.domain.now in
    let here : c.args.row < length rows = is_there _ g.D.Domain.value_of p rows c.args.row
    (c.requires.1.1.1.1.1.1.0.is.logged.keeps.dirty_rows c.args.row c.args.number c.requires.1.1.1.1.1.1.1.0) in
    let (name, e) = name_there _ g.D.Domain.value_of p rows c.args.row here in
    (number_fits p laws c.args.task.now.program.now c.requires.1.1.1.1.1.0 c.args.task.now.limit g.begun.origin (g.W.Work.entries c.args.work.now)
    (c.args.steps.now - g.begun.steps)
    (state_of g.D.Domain.value_of p rows c.args.arcs.now) (is_dirty c.args.unmet.now) c.requires.1.1.1.1.1.1.0 c.args.row c.args.number
    (key_name g.D.Domain.value_of name)
    (named_at _ g.D.Domain.value_of p rows c.args.row name e) c.requires.1.1.1.1.1.1.1.0 c.requires.1.1.1.1.1.1.1.1).0
