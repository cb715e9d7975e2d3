use Rattle.std.proofs.Common.{◌≡◌, ◌-◌, heap_items}
use Rattle.plai_arcs.specs.Arcs.{is_dirty}
use Rattle.plai_eval.specs.Meaning.{as_domain}
use Rattle.plai_fix_laws.specs.WorkStates.{Extends}
use Rattle.plai_fix_laws.specs.Measures.{kept_room, kept_ranks}
use Rattle.plai_fix_rows.specs.Tables.{kept_rows, state_of}
use Rattle.plai_fix_rows.specs.Solving.{IsReady}
use Rattle.plai_fix.proofs.settling.work_answers.Given as goal

-- what was told and counted at the start
abbrev pub ghost-work_clauses : goal.ghost-work_clauses
ghost-work_clauses g a = g.begun

-- work goes on from the start
abbrev pub invariant-loop : goal.invariant-loop
invariant-loop g l =
    let p = g.D.Domain.plain l.task.domain.now in
    let value_of = g.D.Domain.value_of in
    let old = kept_rows value_of p l.initial.table.rows in
    let now = kept_rows value_of p l.table.rows in
    record {
      ready : IsReady p l.task.program.now l.task.limit g.begun.origin (g.W.Work.entries l.work) (l.steps - g.begun.steps)
          (state_of value_of p l.table.rows l.arcs) (is_dirty l.unmet) (heap_items l.queue);
      extends : Extends (as_domain p) old now;
      room : kept_room (as_domain p) l.task.limit now ≡ kept_room (as_domain p) l.task.limit old;
    }

-- the ranks of the answers
abbrev pub decreases-loop : goal.decreases-loop
decreases-loop g l =
    let p = g.D.Domain.plain l.task.domain.now in
    kept_ranks (as_domain p) (λ pred. p.rank) (kept_rows g.D.Domain.value_of p l.table.rows)
