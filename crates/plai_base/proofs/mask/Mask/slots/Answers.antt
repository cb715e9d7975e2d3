use Rattle.std.proofs.Common.{sym, arith}
use Rattle.std.proofs.lemmas.Grind.{common_steps}
use Rattle.plai_base.specs.Mask.{slots_below}
use Rattle.plai_base.proofs.Masks.{slots_below-with, slots_below-without}
use Rattle.plai_base.proofs.mask.Mask.slots.Goals as goal
use Rattle.plai_base.proofs.mask.Mask.slots.Goals.{then-contains+in_ok-push, else-contains}

pub loop-slot-preserved : goal.loop-slot-preserved
loop-slot-preserved c =
    elim c.if-contains.branch [
      | then-contains+in_ok-push w ↦
          let more = slots_below-with c.args.self c.loop-slot.slot (sym w.if-contains.ensures) in
          grind (arith, common_steps, w.in_ok-push.ensures.items)
      | else-contains w ↦
          let same = slots_below-without c.args.self c.loop-slot.slot (sym w.if-contains.ensures) in
          cc
    ]

pub loop-slot-init : goal.loop-slot-init
unfolding slots_below
loop-slot-init c = c.new-slots.ensures.items
