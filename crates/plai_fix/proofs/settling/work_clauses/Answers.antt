use Rattle.std.proofs.Common.{◌∙◌, subst}
use Rattle.plai_eval.specs.Meaning.{as_domain, as_program}
use Rattle.plai_fix_rows.specs.declared.change.Change.TheVariants.{Nothing}
use Rattle.plai_fix_rows.specs.Tables.{kept_rows, state_of}
use Rattle.plai_fix_rows.specs.Moves.{Moves}
use Rattle.plai_fix_laws.proofs.Extended.{extends_then}
use Rattle.plai_fix.proofs.Shifted.{moves_rest}
use Rattle.plai_fix.proofs.settling.work_clauses.Goals as goal

pub loop-row-preserved : goal.loop-row-preserved
loop-row-preserved g c =
    let p = g.D.Domain.plain c.args.task.now.domain.now in
    let value_of = g.D.Domain.value_of in
    let limit = c.args.task.now.limit in
    let mid = state_of value_of p c.loop-row.table.rows c.loop-row.arcs in
    let new = state_of value_of p c.work_pair.new.table.rows c.work_pair.new.arcs in
    let moves : Moves (as_domain p) (as_program p c.args.task.now.program.now) limit (λ pred. p.rank) mid new Nothing =
    subst (Moves (as_domain p) (as_program p c.args.task.now.program.now) limit (λ pred. p.rank) mid new) c.in-Nothing.is c.in_ok-change.ensures.moves in
    record {
      ready = record { at_work = c.in_ok-change.ensures.at_work; queued = c.in_ok-change.ensures.queued };
      extends = extends_then (as_domain p) (kept_rows value_of p c.args.table.now.rows) (kept_rows value_of p c.loop-row.table.rows)
          (kept_rows value_of p c.work_pair.new.table.rows)
          c.loop-row.invariant.extends c.in_ok-change.ensures.extends;
      room = moves.0 ∙ c.loop-row.invariant.room;
      ranks = moves.1 ∙ c.loop-row.invariant.ranks;
    }

pub returns-in_default-2 : goal.returns-in_default-2
returns-in_default-2 g c =
    let p = g.D.Domain.plain c.args.task.now.domain.now in
    let value_of = g.D.Domain.value_of in
    let limit = c.args.task.now.limit in
    record {
      ready = record { at_work = c.in_ok-change.ensures.at_work; queued = c.in_ok-change.ensures.queued };
      extends = extends_then (as_domain p) (kept_rows value_of p c.args.table.now.rows) (kept_rows value_of p c.loop-row.table.rows)
          (kept_rows value_of p c.work_pair.new.table.rows)
          c.loop-row.invariant.extends c.in_ok-change.ensures.extends;
      rests = moves_rest (as_domain p) (as_program p c.args.task.now.program.now) limit (λ pred. p.rank)
          (state_of value_of p c.args.table.now.rows c.args.arcs.now)
          (state_of value_of p c.loop-row.table.rows c.loop-row.arcs) (state_of value_of p c.work_pair.new.table.rows c.work_pair.new.arcs)
          c.in_ok-change.change c.in_default-2.not-Nothing
          c.loop-row.invariant.room c.loop-row.invariant.ranks c.in_ok-change.ensures.moves;
      stops = tt;
    }
