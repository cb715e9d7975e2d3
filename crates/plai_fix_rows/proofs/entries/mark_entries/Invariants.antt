use Rattle.std.proofs.Common.{◌≡◌, true, false, map, take}
use Rattle.plai_theory.specs.Words.{IsIn}
use Rattle.plai_theory.specs.Domain.{Name}
use Rattle.plai_terms.specs.declared.abs.Abs.{Abs}
use Rattle.plai_terms.specs.declared.pred_key.PredKey.{PredKey}
use Rattle.plai_eval.specs.Meaning.{as_domain}
use Rattle.plai_fix_laws.specs.WorkStates.{HasLiveRow}
use Rattle.plai_fix_rows.specs.Tables.{key_name, kept_rows}
use Rattle.plai_fix_rows.specs.Marks.{AreMarkedAs}
use Rattle.plai_fix_rows.proofs.entries.mark_entries.Given as goal

-- the names so far are marked
abbrev pub invariant-loop-key : goal.invariant-loop-key
invariant-loop-key g l =
    let p = g.D.Domain.plain l.domain in
    let value_of = g.D.Domain.value_of in
    let old = kept_rows value_of p l.fn.table.rows in
    let names = map (key_name value_of) (take l.key-index l.keys) in
    record {
      same : kept_rows value_of p l.table.rows ≡ old;
      marked : AreMarkedAs value_of names l.table.rows;
      found : l.all ≡ true → (x : Name PredKey Abs) → IsIn x names → HasLiveRow (as_domain p) old x;
      absent : l.all ≡ false → (x : Name PredKey Abs) × IsIn x names × (HasLiveRow (as_domain p) old x → ⊥);
    }
