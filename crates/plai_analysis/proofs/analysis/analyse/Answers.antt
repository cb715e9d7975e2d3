use Rattle.std.proofs.Common.{◌≡◌, ◌-◌, None, List, [], inr}
use Rattle.plai_fix_rows.specs.Told.{PlainRow}
use Rattle.plai_analysis.specs.Solved.{opened_rows}
use Rattle.plai_analysis.specs.Work.{HasWhole, StopsFrom, HasStopped, Whole}
use Rattle.plai_analysis.proofs.Openings.{nothing_start, nothing_opens}
use Rattle.plai_analysis.proofs.Outcomes.{on_ok, if_err}
use Rattle.plai_analysis.proofs.analysis.analyse.Goals as goal

pub work_on-requires : goal.work_on-requires
work_on-requires g c =
    let p = g.D.Domain.plain c.args.domain.now in
    record {
      start = (None, nothing_start g.D.Domain.value_of p c.args.program.now c.in_ok-table.table.rows c.in_ok-arcs.arcs c.in_ok-table.ensures);
      opens = nothing_opens g.D.Domain.value_of p c.args.program.now c.in_ok-table.table.rows c.in_ok-arcs.arcs c.in_ok-table.ensures
          c.in_ok-arcs.ensures.dirty c.in_ok-arcs.ensures.calls;
    }

pub returns : goal.returns
returns g c =
    let p = g.D.Domain.plain c.args.domain.now in
    let program = c.args.program.now in
    let begun = g.W.Work.entries c.args.work.now in
    let told = g.W.Work.entries c.work_on.new.work in
    let steps = c.work_on.new.steps - c.args.steps.now in
    let start : opened_rows g.D.Domain.value_of p program c.in_ok-table.table.rows c.in_ok-arcs.arcs ≡ [] =
    nothing_start g.D.Domain.value_of p program c.in_ok-table.table.rows c.in_ok-arcs.arcs c.in_ok-table.ensures in
    record {
      table = c.work_on.ensures.table;
      kept = c.work_on.ensures.kept;
      not_over = on_ok c.work_on.result (λ h. h None start tt) c.work_on.ensures.not_over;
      causes = c.work_on.ensures.causes;
      work = on_ok c.work_on.result (λ h. Whole (λ quiet. quiet) (h None start)) c.work_on.ensures.work;
      stopped = if_err _ (HasStopped p None program c.args.limit begun told steps) c.work_on.result (λ fail h. inr (λ quiet. quiet, h None start))
          c.work_on.ensures.stopped;
    }
