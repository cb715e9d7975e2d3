use Rattle.std.proofs.Common.{ℕ, Bool, false, nat_eq, List, map, heap_items, vec_len}
use Rattle.std.specs.List.{list_any}
use Rattle.plai_theory.specs.Domain.{Name}
use Rattle.plai_terms.specs.declared.abs.Abs.{Abs}
use Rattle.plai_terms.specs.declared.pred_key.PredKey.{PredKey}
use Rattle.plai_eval.specs.Meaning.{as_domain}
use Rattle.plai_fix_laws.specs.WorkStates.{Extends, AreOfRows}
use Rattle.plai_fix_rows.specs.Tables.{key_name, kept_rows, state_of}
use Rattle.plai_fix_laws.specs.Queues.{IsQueued}
use Rattle.plai_fix_rows.specs.Told.{Origin}
use Rattle.plai_fix_rows.specs.Solving.{IsPlacing}
use Rattle.plai_fix_laws.specs.Measures.{Adds}
use Rattle.plai_fix_rows.proofs.placing.place_all.Given as goal

-- the names so far are placed
abbrev pub invariant-loop-name : goal.invariant-loop-name
invariant-loop-name g l =
    let p = g.D.Domain.plain l.task.domain.now in
    let value_of = g.D.Domain.value_of in
    let old = state_of value_of p l.initial.table.rows l.initial.arcs in
    let now = state_of value_of p l.table.rows l.arcs in
    record {
      placing : (begun : Origin) (cost : ℕ) (unmet : ℕ → ℕ → Bool) (n i : ℕ) (called : List (Name PredKey Abs))
          → IsPlacing p l.task.program.now l.task.limit begun (g.W.Work.entries l.initial.work) cost old unmet n i called
          (λ j. list_any (nat_eq j) l.initial.rows.items)
          (map (key_name value_of) l.initial.missing.items) false
          → IsPlacing p l.task.program.now l.task.limit begun (g.W.Work.entries l.work) cost now unmet n i called (λ j. list_any (nat_eq j) l.rows.items)
          (map (key_name value_of) l.missing.items) l.full;
      of_rows : AreOfRows now;
      adds : Adds (as_domain p) l.task.limit old now;
      extends : Extends (as_domain p) (kept_rows value_of p l.initial.table.rows) (kept_rows value_of p l.table.rows);
      queued : IsQueued old (heap_items l.initial.queue) → IsQueued now (heap_items l.queue);
    }

abbrev pub decreases-loop-name : goal.decreases-loop-name
decreases-loop-name g l = vec_len l.missing
