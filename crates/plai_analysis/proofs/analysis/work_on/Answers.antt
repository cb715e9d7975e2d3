use Rattle.std.proofs.Common.{◌-◌, arith}
use Rattle.plai_analysis.specs.Solved.{opened_rows}
use Rattle.plai_analysis.proofs.Caused.{careful}
use Rattle.plai_analysis.proofs.Causes.{cause, not_over}
use Rattle.plai_analysis.proofs.analysis.work_on.Goals as goal

pub conclude-requires : goal.conclude-requires
conclude-requires g c =
    let p = g.D.Domain.plain c.args.domain.now in
    record {
      was = c.requires.start.0;
      opened = opened_rows g.D.Domain.value_of p c.args.program.now c.args.table.rows c.args.arcs;
      start = c.requires.start.1;
      log = c.in_default.ensures.solved.log;
      solved = c.in_default.ensures.solved.is;
      marked = c.in_default.ensures.marked;
    }

pub returns-in-Err-clause-causes : goal.returns-in-Err-clause-causes
returns-in-Err-clause-causes g c =
    let p = g.D.Domain.plain c.args.domain.now in
    let opened = opened_rows g.D.Domain.value_of p c.args.program.now c.args.table.rows c.args.arcs in
    cause p (g.met.D.Domain.lawful c.args.domain.now) c.args.program.now c.is_program.ensures.well_formed c.args.limit c.requires.start.0 opened
    c.requires.start.1 (g.W.Work.entries c.args.work.now) (g.W.Work.entries c.solve.new.work) (c.solve.new.steps - c.args.steps.now) c.in-Err.fail
    c.in-Err.ensures.stops

pub returns-in-Err-clause-stopped : goal.returns-in-Err-clause-stopped
returns-in-Err-clause-stopped g c =
    let p = g.D.Domain.plain c.args.domain.now in
    let opened = opened_rows g.D.Domain.value_of p c.args.program.now c.args.table.rows c.args.arcs in
    λ was start. (
      opened,
      careful p (g.met.D.Domain.lawful c.args.domain.now) c.args.program.now c.is_program.ensures.well_formed c.args.limit was opened start,
      c.in-Err.ensures.stops,
    )

pub returns-in-Err-conclude-clause-stopped : goal.returns-in-Err-conclude-clause-stopped
returns-in-Err-conclude-clause-stopped g c =
    let p = g.D.Domain.plain c.args.domain.now in
    let opened = opened_rows g.D.Domain.value_of p c.args.program.now c.args.table.rows c.args.arcs in
    let h = c.in_default.ensures.solved in
    λ was start. (
      opened,
      careful p (g.met.D.Domain.lawful c.args.domain.now) c.args.program.now c.is_program.ensures.well_formed c.args.limit was opened start,
      record { log = h.log; is = h.is.whole.legal; is_told = h.is_told; within = omega arith },
    )

pub returns-in-Ok-clause-not_over : goal.returns-in-Ok-clause-not_over
returns-in-Ok-clause-not_over g c =
    let p = g.D.Domain.plain c.args.domain.now in
    let opened = opened_rows g.D.Domain.value_of p c.args.program.now c.args.table.rows c.args.arcs in
    let h = c.in_default.ensures.solved in
    λ was start fine. not_over p (g.met.D.Domain.lawful c.args.domain.now) c.args.program.now c.is_program.ensures.well_formed c.args.limit was
    opened start fine h.log h.is.whole h.is.fits

pub returns-in-Ok-clause-work : goal.returns-in-Ok-clause-work
returns-in-Ok-clause-work g c =
    let p = g.D.Domain.plain c.args.domain.now in
    let opened = opened_rows g.D.Domain.value_of p c.args.program.now c.args.table.rows c.args.arcs in
    let h = c.in_default.ensures.solved in
    λ was start. (
      opened,
      careful p (g.met.D.Domain.lawful c.args.domain.now) c.args.program.now c.is_program.ensures.well_formed c.args.limit was opened start,
      record { log = h.log; is = h.is.whole; is_told = h.is_told; within = h.within },
    )
