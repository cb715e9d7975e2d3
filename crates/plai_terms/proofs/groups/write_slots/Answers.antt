use Rattle.std.proofs.Common.{ap, ◌∙◌, arith}
use Rattle.plai_terms.specs.Groups.{slot_text}
use Rattle.plai_terms.proofs.Joined.{get_or_any, joins_first, joins_next}
use Rattle.plai_terms.proofs.groups.write_slots.Goals as goal
use Rattle.plai_terms.proofs.groups.write_slots.Goals.{then-i-gt0+in_ok-push, else-i-gt0}

pub loop-i-preserved : goal.loop-i-preserved
loop-i-preserved c = elim c.if-i-gt0.branch [
  | then-i-gt0+in_ok-push w ↦
      joins_next slot_text c.args.separator c.args.slots.now c.loop-i.i _ c.args.out.now.items c.loop-i.out.items c.if-i-gt0.out.items
      c.write_slot.new.out.items
      (omega arith) (get_or_any c.args.slots.now c.loop-i.i 0 _ (omega arith)) (omega arith) c.loop-i.invariant
      (ap (λ o. o.items) w.out-is ∙ w.in_ok-push.ensures.items) c.in_ok-write_slot.ensures
  | else-i-gt0 w ↦
      joins_first slot_text c.args.separator c.args.slots.now c.loop-i.i _ c.args.out.now.items c.loop-i.out.items c.if-i-gt0.out.items
      c.write_slot.new.out.items
      (omega arith) (get_or_any c.args.slots.now c.loop-i.i 0 _ (omega arith)) (omega arith) c.loop-i.invariant (ap (λ o. o.items) w.out-is)
      c.in_ok-write_slot.ensures
]
