use Rattle.std.proofs.Common.{◌∙◌, subst}
use Rattle.plai_eval.specs.Meaning.{as_domain}
use Rattle.plai_fix_rows.specs.declared.change.Change.TheVariants.{Grown}
use Rattle.plai_fix_rows.specs.Tables.{kept_rows, state_of}
use Rattle.plai_fix_rows.specs.Moves.{Rests}
use Rattle.plai_fix_laws.proofs.Extended.{extends_then}
use Rattle.plai_fix.proofs.settling.work_answers.Goals as goal

pub returns-in-Nothing-clause-extends : goal.returns-in-Nothing-clause-extends
returns-in-Nothing-clause-extends g c =
    let p = g.D.Domain.plain c.args.task.now.domain.now in
    let value_of = g.D.Domain.value_of in
    extends_then (as_domain p) (kept_rows value_of p c.args.table.now.rows) (kept_rows value_of p c.loop.table.rows)
    (kept_rows value_of p c.work_clauses.new.table.rows) c.loop.invariant.extends c.in_ok-work_clauses.ensures.extends

pub loop-preserved : goal.loop-preserved
loop-preserved g c =
    let p = g.D.Domain.plain c.args.task.now.domain.now in
    let value_of = g.D.Domain.value_of in
    let mid = state_of value_of p c.loop.table.rows c.loop.arcs in
    let new = state_of value_of p c.work_clauses.new.table.rows c.work_clauses.new.arcs in
    let rests : Rests (as_domain p) c.args.task.now.limit (λ pred. p.rank) mid new Grown =
    subst (Rests (as_domain p) c.args.task.now.limit (λ pred. p.rank) mid new) c.in-Grown.is c.in_ok-work_clauses.ensures.rests in
    record {
      ready = c.in_ok-work_clauses.ensures.ready;
      extends = extends_then (as_domain p) (kept_rows value_of p c.args.table.now.rows) (kept_rows value_of p c.loop.table.rows)
          (kept_rows value_of p c.work_clauses.new.table.rows) c.loop.invariant.extends c.in_ok-work_clauses.ensures.extends;
      room = rests.0 ∙ c.loop.invariant.room;
    }

pub returns-in-Opened-clause-extends : goal.returns-in-Opened-clause-extends
returns-in-Opened-clause-extends g c =
    let p = g.D.Domain.plain c.args.task.now.domain.now in
    let value_of = g.D.Domain.value_of in
    extends_then (as_domain p) (kept_rows value_of p c.args.table.now.rows) (kept_rows value_of p c.loop.table.rows)
    (kept_rows value_of p c.work_clauses.new.table.rows) c.loop.invariant.extends c.in_ok-work_clauses.ensures.extends
