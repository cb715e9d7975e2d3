use Rattle.std.proofs.Common.{◌≡◌, ℕ, ◌<◌, Bool, true, false, IfSome, IfNone, sym, subst}
use Rattle.plai_arcs.specs.declared.dirty_row.DirtyRow.{DirtyRow}
use Rattle.plai_arcs.specs.Flags.{flag_at}
use Rattle.plai_arcs.proofs.PlaceLemmas.{at_past}
use Rattle.plai_arcs.proofs.DirtyLemmas.{row_marks}
use Rattle.plai_arcs.proofs.dirty.least.Goals as goal

pub returns-then-row-rows-clause-none : goal.returns-then-row-rows-clause-none
returns-then-row-rows-clause-none c =
    subst (λ (m : ℕ → Bool). IfNone c.least.result ((k : ℕ) → m k ≡ false))
    (sym (row_marks c.args.rows.now c.args.row c.index-rows-row.result c.if-row-rows.true c.index-rows-row.is)) c.least.ensures.none

pub returns-then-row-rows-clause-some : goal.returns-then-row-rows-clause-some
returns-then-row-rows-clause-some c =
    subst (λ (m : ℕ → Bool). IfSome c.least.result (λ l. m l ≡ true))
    (sym (row_marks c.args.rows.now c.args.row c.index-rows-row.result c.if-row-rows.true c.index-rows-row.is)) c.least.ensures.some

pub returns-then-row-rows-clause-below : goal.returns-then-row-rows-clause-below
returns-then-row-rows-clause-below c =
    subst (λ (m : ℕ → Bool). IfSome c.least.result (λ l. (k : ℕ) → k < l → m k ≡ false))
    (sym (row_marks c.args.rows.now c.args.row c.index-rows-row.result c.if-row-rows.true c.index-rows-row.is)) c.least.ensures.below

pub returns-else-row-rows-clause-none : goal.returns-else-row-rows-clause-none
returns-else-row-rows-clause-none c k = at_past (λ (d : DirtyRow). flag_at d.flags.items k) false c.args.rows.now c.args.row c.if-row-rows.false
