use Rattle.plai_analysis.proofs.Kept.{dirty_within, calls_within, kept_table}
use Rattle.plai_analysis.proofs.analysis.conclude.Goals as goal

pub keep_reachable-requires : goal.keep_reachable-requires
keep_reachable-requires g c =
    let p = g.D.Domain.plain c.args.domain.now in
    record {
      calls = calls_within g.D.Domain.value_of p c.args.program.now c.args.limit c.args.table.rows c.args.arcs c.requires;
      dirty = dirty_within g.D.Domain.value_of p c.args.program.now c.args.limit c.args.table.rows c.args.arcs c.requires;
    }

pub texts_of_table-requires : goal.texts_of_table-requires
texts_of_table-requires g c = (
  c.keep_reachable.new.arcs,
  kept_table g.D.Domain.value_of (g.D.Domain.plain c.args.domain.now) c.args.program.now c.args.limit c.args.table.rows c.args.arcs c.requires
      (g.met.D.Domain.lawful c.args.domain.now) (g.met.D.Domain.printed c.args.domain.now) c.is_program.ensures.well_formed
      c.keep_reachable.new.table.rows c.keep_reachable.new.arcs c.in_ok-keep_reachable.ensures.ok,
)

pub returns-clause-kept : goal.returns-clause-kept
returns-clause-kept g c =
    kept_table g.D.Domain.value_of (g.D.Domain.plain c.args.domain.now) c.args.program.now c.args.limit c.args.table.rows c.args.arcs c.requires
    (g.met.D.Domain.lawful c.args.domain.now) (g.met.D.Domain.printed c.args.domain.now) c.is_program.ensures.well_formed
    c.keep_reachable.new.table.rows c.keep_reachable.new.arcs c.in_ok-keep_reachable.ensures.ok
