use Rattle.std.proofs.Common.{◌≡◌, ◌-◌, Some, inr, refl, arith}
use Rattle.plai_repair.specs.Opened.{IsOpened}
use Rattle.plai_analysis.specs.Quiet.{IsQuiet}
use Rattle.plai_analysis.specs.Solved.{opened_rows}
use Rattle.plai_analysis.specs.Starts.{IsStart}
use Rattle.plai_analysis.specs.Work.{HasStopped, Quiet, Whole}
use Rattle.plai_analysis.proofs.Openings.{opened_start, opened_opens}
use Rattle.plai_analysis.proofs.Outcomes.{on_ok, if_err}
use Rattle.plai_analysis.proofs.QuietEdits.{quiet, unchanged, still_kept, still_fine}
use Rattle.plai_analysis.proofs.analysis.analyse_again.Goals as goal

pub open_state-requires : goal.open_state-requires
open_state-requires g c = record { touched = c.requires.touched; whole = (c.requires.kept.rows, c.requires.kept.whole) }

pub work_on-requires : goal.work_on-requires
work_on-requires g c =
    let p = g.D.Domain.plain c.args.domain.now in
    let laws = g.met.D.Domain.lawful c.args.domain.now in
    let is : IsOpened g.D.Domain.value_of p c.args.was.now c.args.program.now c.requires.kept.rows c.open_state.new.table.rows c.open_state.new.arcs =
    c.in_ok-open_state.ensures c.requires.kept.rows c.requires.kept.whole in
    record {
      start = (
        Some c.args.was.now,
        opened_start g.D.Domain.value_of p laws c.args.was.now c.args.program.now c.is_program.ensures.well_formed c.is_program-2.ensures.well_formed
            c.requires.kept.rows c.requires.kept.whole.least c.open_state.new.table.rows c.open_state.new.arcs is,
      );
      opens = opened_opens g.D.Domain.value_of p laws c.args.was.now c.args.program.now c.is_program.ensures.well_formed c.is_program-2.ensures.well_formed
          c.requires.kept.rows c.requires.kept.whole.least c.open_state.new.table.rows c.open_state.new.arcs is;
    }

pub texts_again-requires : goal.texts_again-requires
texts_again-requires g c = record {
  own = c.requires.own;
  kept = (c.args.kept.arcs, c.requires.kept);
  unchanged = c.is_quiet.ensures.0 c.if-is_quiet.true;
}

pub returns : goal.returns
returns g c =
    let p = g.D.Domain.plain c.args.domain.now in
    let was = c.args.was.now in
    let program = c.args.program.now in
    let begun = g.W.Work.entries c.args.work.now in
    let told = g.W.Work.entries c.work_on.new.work in
    let steps = c.work_on.new.steps - c.args.steps.now in
    let is : IsOpened g.D.Domain.value_of p was program c.requires.kept.rows c.open_state.new.table.rows c.open_state.new.arcs =
    c.in_ok-open_state.ensures c.requires.kept.rows c.requires.kept.whole in
    let start : IsStart p (Some was) program (opened_rows g.D.Domain.value_of p program c.open_state.new.table.rows c.open_state.new.arcs) =
    opened_start g.D.Domain.value_of p (g.met.D.Domain.lawful c.args.domain.now) was program c.is_program.ensures.well_formed
    c.is_program-2.ensures.well_formed c.requires.kept.rows c.requires.kept.whole.least c.open_state.new.table.rows c.open_state.new.arcs is in
    let loud : IsQuiet p was program → ⊥ = λ quiet.
    let h = c.is_quiet.ensures.1 (unchanged g.D.Domain.value_of p was program c.requires.kept.rows c.args.kept.table.rows c.args.kept.arcs
    c.requires.kept.whole quiet) in let e = c.if-is_quiet.false in cc in
    record {
      table = c.work_on.ensures.table;
      kept = c.work_on.ensures.kept;
      not_over = on_ok c.work_on.result (λ h. h (Some was) start c.requires.fine) c.work_on.ensures.not_over;
      causes = c.work_on.ensures.causes;
      work = on_ok c.work_on.result (λ h. Whole loud (h (Some was) start)) c.work_on.ensures.work;
      stopped = if_err _ (HasStopped p (Some was) program c.args.limit begun told steps) c.work_on.result (λ fail h. inr (loud, h (Some was) start))
          c.work_on.ensures.stopped;
    }

pub returns-then-is_quiet-clause-kept : goal.returns-then-is_quiet-clause-kept
returns-then-is_quiet-clause-kept g c =
    still_kept g.D.Domain.value_of (g.D.Domain.plain c.args.domain.now) c.args.was.now c.args.program.now (g.met.D.Domain.lawful c.args.domain.now)
    c.is_program.ensures.well_formed c.is_program-2.ensures.well_formed c.args.kept.table.rows c.args.kept.arcs c.args.limit c.requires.kept
    (c.is_quiet.ensures.0 c.if-is_quiet.true)

pub returns-then-is_quiet-clause-not_over : goal.returns-then-is_quiet-clause-not_over
returns-then-is_quiet-clause-not_over g c =
    still_fine g.D.Domain.value_of (g.D.Domain.plain c.args.domain.now) c.args.was.now c.args.program.now (g.met.D.Domain.lawful c.args.domain.now)
    c.is_program.ensures.well_formed c.is_program-2.ensures.well_formed c.args.kept.table.rows c.args.kept.arcs c.requires.kept.rows c.requires.kept.whole
    (c.is_quiet.ensures.0 c.if-is_quiet.true) c.requires.fine

pub returns-then-is_quiet-clause-work : goal.returns-then-is_quiet-clause-work
returns-then-is_quiet-clause-work g c =
    let none : c.args.steps.now - c.args.steps.now ≡ 0 = omega arith in
    Quiet (quiet g.D.Domain.value_of (g.D.Domain.plain c.args.domain.now) c.args.was.now c.args.program.now c.requires.kept.rows c.args.kept.table.rows
    c.args.kept.arcs c.requires.kept.whole (c.is_quiet.ensures.0 c.if-is_quiet.true)) refl none
