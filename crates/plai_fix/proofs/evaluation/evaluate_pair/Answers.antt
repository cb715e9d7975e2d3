use Rattle.std.proofs.Common.{◌≡◌, IfErr, map, subst, rules}
use Rattle.std.specs.Option.{option_map}
use Rattle.plai_domain.specs.declared.key.Key.{Key}
use Rattle.plai_domain.specs.declared.work.WorkEntry.TheVariants as entries
use Rattle.plai_domain.specs.Names.{name_of}
use Rattle.plai_domain.specs.Noted.{noted}
use Rattle.plai_arcs.specs.Arcs.{is_dirty, is_call}
use Rattle.plai_eval.specs.Meaning.{as_domain}
use Rattle.plai_fix_rows.specs.Tables.{key_name, kept_rows}
use Rattle.plai_fix.specs.Evaluating.{IsEvaluation, TellsOver}
use Rattle.plai_fix_rows.proofs.Parts.{if_err, name_at, one_name, clears_from}
use Rattle.plai_fix.proofs.evaluation.evaluate_pair.Goals as goal

pub evaluate_clause-requires-clause-arity : goal.evaluate_clause-requires-clause-arity
evaluate_clause-requires-clause-arity g c = c.requires.arity c.row.result.name.now (name_at c.args.table.now.rows c.args.row _ c.row.ensures)

pub evaluate_clause-requires-clause-call : goal.evaluate_clause-requires-clause-call
evaluate_clause-requires-clause-call g c = c.requires.call c.row.result.name.now (name_at c.args.table.now.rows c.args.row _ c.row.ensures)

pub returns-in_err-evaluated-clause-err : goal.returns-in_err-evaluated-clause-err
returns-in_err-evaluated-clause-err g c =
    let p = g.D.Domain.plain c.args.domain.now in
    let value_of = g.D.Domain.value_of in
    let rows = c.args.table.now.rows in
    let told : IfErr c.from_residual.result (TellsOver p (kept_rows value_of p rows) (key_name value_of c.row.result.name.now) c.args.number
    c.args.clause.now) = search rules in
    if_err (TellsOver p (kept_rows value_of p rows) (key_name value_of c.row.result.name.now) c.args.number c.args.clause.now) _ c.from_residual.result told
    (λ fail h name e. subst (λ (z : Key g.row.D-Value.Denot). TellsOver p (kept_rows value_of p rows) (key_name value_of z) c.args.number c.args.clause.now
    fail) (one_name rows c.args.row _ name c.row.ensures e) h)

pub returns-clause-ok : goal.returns-clause-ok
returns-clause-ok g c =
    let p = g.D.Domain.plain c.args.domain.now in
    let value_of = g.D.Domain.value_of in
    let rows = c.args.table.now.rows in
    λ name e.
    subst (λ (z : Key g.row.D-Value.Denot). IsEvaluation p (kept_rows value_of p rows) c.args.clause.now (value_of z.call)
    (option_map value_of c.in_ok-evaluated.evaluated.answer) (map (key_name value_of) c.in_ok-evaluated.evaluated.calls))
    (one_name rows c.args.row _ name c.row.ensures e) c.in_ok-evaluated.ensures.ok

pub returns-clause-clears : goal.returns-clause-clears
returns-clause-clears g c =
    let p = g.D.Domain.plain c.args.domain.now in
    clears_from (as_domain p) (kept_rows g.D.Domain.value_of p c.args.table.now.rows) (is_dirty c.args.arcs.now) (is_dirty c.clear_dirty.new.self)
    (is_call c.args.arcs.now) (is_call c.clear_dirty.new.self)
    c.args.row c.args.number c.requires.number c.clear_dirty.ensures.dirty c.clear_dirty.ensures.calls

pub returns-clause-noted : goal.returns-clause-noted
returns-clause-noted g c =
    λ name e.
    subst (λ (z : Key g.row.D-Value.Denot). g.W.Work.entries c.evaluate_clause.new.work
    ≡ noted (entries.Evaluated (name_of g.D.Domain.value_of z) c.args.number) (g.W.Work.entries c.args.work.now))
    (one_name c.args.table.now.rows c.args.row _ name c.row.ensures e) c.in_ok-evaluated.ensures.noted
