use Rattle.std.proofs.Common.{ℕ, map, heap_items, vec_len}
use Rattle.plai_theory.specs.Words.{IsIn}
use Rattle.plai_theory.specs.Domain.{Name}
use Rattle.plai_terms.specs.declared.abs.Abs.{Abs}
use Rattle.plai_terms.specs.declared.pred_key.PredKey.{PredKey}
use Rattle.plai_arcs.specs.Arcs.{is_dirty}
use Rattle.plai_eval.specs.Meaning.{as_domain, as_program}
use Rattle.plai_fix_rows.specs.Tables.{key_name, kept_rows, state_of}
use Rattle.plai_fix_laws.specs.Queues.{IsQueued}
use Rattle.plai_fix_rows.specs.Told.{Origin}
use Rattle.plai_fix_rows.specs.Solving.{IsAtWork}
use Rattle.plai_fix_laws.specs.WorkStates.{AreOfRows}
use Rattle.plai_fix_rows.proofs.OpenedRows.{AreOpening}
use Rattle.plai_fix_rows.proofs.entries.place_entries.Given as goal

-- the names so far are placed
abbrev pub invariant-loop-key : goal.invariant-loop-key
invariant-loop-key g l =
    let p = g.D.Domain.plain l.task.domain.now in
    let value_of = g.D.Domain.value_of in
    let program = l.task.program.now in
    let old = state_of value_of p l.initial.table.rows l.initial.arcs in
    let now = state_of value_of p l.table.rows l.arcs in
    let left = map (key_name value_of) l.keys.items in
    record {
      at_work : (begun : Origin) (cost : ℕ) → IsAtWork p program l.task.limit begun (g.W.Work.entries l.initial.work) cost old (is_dirty l.initial.unmet)
          → IsAtWork p program l.task.limit begun (g.W.Work.entries l.work) cost now (is_dirty l.unmet);
      of_rows : AreOfRows now;
      opening : AreOpening (as_domain p) (as_program p program) l.task.limit (kept_rows value_of p l.table.rows) left;
      inside : (x : Name PredKey Abs) → IsIn x left → IsIn x (as_program p program).entries;
      queued : IsQueued old (heap_items l.initial.queue) → IsQueued now (heap_items l.queue);
    }

abbrev pub decreases-loop-key : goal.decreases-loop-key
decreases-loop-key g l = vec_len l.keys
