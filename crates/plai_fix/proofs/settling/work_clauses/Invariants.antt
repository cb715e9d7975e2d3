use Rattle.std.proofs.Common.{◌≡◌, ◌-◌, heap_items}
use Rattle.plai_arcs.specs.Arcs.{is_dirty}
use Rattle.plai_eval.specs.Meaning.{as_domain, as_program}
use Rattle.plai_fix_laws.specs.WorkStates.{Extends}
use Rattle.plai_fix_laws.specs.Measures.{kept_room, kept_ranks, kept_dirties}
use Rattle.plai_fix_rows.specs.Tables.{kept_rows, state_of}
use Rattle.plai_fix_rows.specs.Solving.{IsReady}
use Rattle.plai_fix.proofs.settling.work_clauses.Given as goal

-- what was told and counted at the start
abbrev pub ghost-work_pair : goal.ghost-work_pair
ghost-work_pair g a = g.begun

-- work goes on from the start
abbrev pub invariant-loop-row : goal.invariant-loop-row
invariant-loop-row g l =
    let p = g.D.Domain.plain l.task.domain.now in
    let value_of = g.D.Domain.value_of in
    let old = kept_rows value_of p l.initial.table.rows in
    let now = kept_rows value_of p l.table.rows in
    record {
      ready : IsReady p l.task.program.now l.task.limit g.begun.origin (g.W.Work.entries l.work) (l.steps - g.begun.steps)
          (state_of value_of p l.table.rows l.arcs) (is_dirty l.unmet) (heap_items l.queue);
      extends : Extends (as_domain p) old now;
      room : kept_room (as_domain p) l.task.limit now ≡ kept_room (as_domain p) l.task.limit old;
      ranks : kept_ranks (as_domain p) (λ pred. p.rank) now ≡ kept_ranks (as_domain p) (λ pred. p.rank) old;
    }

-- the dirty clauses
abbrev pub decreases-loop-row : goal.decreases-loop-row
decreases-loop-row g l =
    let p = g.D.Domain.plain l.task.domain.now in
    kept_dirties (as_domain p) (as_program p l.task.program.now) (state_of g.D.Domain.value_of p l.table.rows l.arcs)
