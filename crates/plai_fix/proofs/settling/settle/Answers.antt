use Rattle.plai_eval.specs.Meaning.{as_domain}
use Rattle.plai_fix_rows.specs.Tables.{kept_rows}
use Rattle.plai_fix_laws.proofs.Extended.{extends_then}
use Rattle.plai_fix.proofs.settling.settle.Goals as goal

pub returns-then-not-branch-clause-extends : goal.returns-then-not-branch-clause-extends
returns-then-not-branch-clause-extends g c =
    let p = g.D.Domain.plain c.args.task.now.domain.now in
    let value_of = g.D.Domain.value_of in
    extends_then (as_domain p) (kept_rows value_of p c.args.table.now.rows) (kept_rows value_of p c.loop.table.rows)
    (kept_rows value_of p c.work_answers.new.table.rows) c.loop.invariant.extends
    c.in_ok-work_answers.ensures.extends

pub loop-preserved : goal.loop-preserved
loop-preserved g c =
    let p = g.D.Domain.plain c.args.task.now.domain.now in
    let value_of = g.D.Domain.value_of in
    record {
      ready = c.in_ok-work_answers.ensures.ready;
      extends = extends_then (as_domain p) (kept_rows value_of p c.args.table.now.rows) (kept_rows value_of p c.loop.table.rows)
          (kept_rows value_of p c.work_answers.new.table.rows)
          c.loop.invariant.extends c.in_ok-work_answers.ensures.extends;
    }
