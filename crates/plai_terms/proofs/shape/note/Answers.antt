use Rattle.std.proofs.Common.{◌≡◌, ℕ, ◌+◌, ◌<◌, false, true, List, Bool, length, get_or, set, take, sym, ap, ◌∙◌, arith, subst}
use Rattle.plai_base.specs.Sets.{has}
use Rattle.plai_terms.proofs.Tables.{noted, passed_by}
use Rattle.plai_terms.proofs.shape.note.Goals as goal
use Rattle.plai_terms.proofs.shape.note.Goals.{then-place-flags, else-place-flags}

pub loop-mask-preserved : goal.loop-mask-preserved
loop-mask-preserved c = elim c.if-place-flags.branch [
  | then-place-flags w ↦
      noted c.args.masks.now c.loop-mask.flags c.loop-mask.mask-index c.mask-item.result (omega arith) c.mask-item.is c.loop-mask.invariant
      c.if-place-flags.flags (omega arith) (w.flags-is ∙ ap (λ p. set c.loop-mask.flags p true) c.bits-place.ensures)
  | else-place-flags w ↦
      let P : List Bool → Type 0 = λ flags. (m : ℕ) → m < length flags → get_or flags m false ≡ has (take (c.loop-mask.mask-index + 1) c.args.masks.now) m in
      subst P (sym w.flags-is)
      (passed_by c.args.masks.now c.loop-mask.flags c.loop-mask.mask-index c.mask-item.result (omega arith) c.mask-item.is c.loop-mask.invariant (omega arith))
]
