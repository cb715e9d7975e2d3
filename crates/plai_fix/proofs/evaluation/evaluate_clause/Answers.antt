use Rattle.std.proofs.Common.{refl}
use Rattle.plai_fix_rows.specs.Tables.{kept_rows}
use Rattle.plai_fix.proofs.Evaluated.{same_names, not_over}
use Rattle.plai_fix.proofs.evaluation.evaluate_clause.Goals as goal

pub returns-in-Ok-clause-ok : goal.returns-in-Ok-clause-ok
returns-in-Ok-clause-ok g c =
    let p = g.D.Domain.plain c.args.domain.now in
    let value_of = g.D.Domain.value_of in
    record {
      answer = c.in-Ok.ensures.answer;
      calls = same_names value_of c.in-Ok.evaluated.calls _ c.in-Ok.ensures.calls;
      within = not_over p (kept_rows value_of p c.args.table.now.rows) c.args.clause.now (value_of c.args.name.now.call) c.in-Ok.ensures.within;
    }

pub returns-in_ok-to_abs-in-Err-Over-clause-err : goal.returns-in_ok-to_abs-in-Err-Over-clause-err
returns-in_ok-to_abs-in-Err-Over-clause-err g c = (
  (λ i. record { pred = c.in_ok-copy-in-Err-Over.ensures i; call = c.in_ok-to_abs-in-Err-Over.ensures i }),
  refl,
  rw c.in-Err-Over.field-0-is at c.in-Err-Over.ensures.over,
)
