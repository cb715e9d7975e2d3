use Rattle.std.proofs.Common.{◌≡◌, subst, arith}
use Rattle.plai_pos.proofs.Masks.{IsRange, range_none, range_more}
use Rattle.plai_pos.proofs.slots.slots_from.Goals as goal

pub loop-slot-init : goal.loop-slot-init
loop-slot-init c = range_none _ _ c.empty-slots.ensures

pub loop-slot-preserved : goal.loop-slot-preserved
loop-slot-preserved c = range_more _ _ _ _ c.loop-slot.auto.slot c.insert-slots.ensures c.loop-slot.invariant

pub returns : goal.returns
returns c = let e : c.loop-slot.slot ≡ c.args.end = omega arith in subst (IsRange c.loop-slot.slots c.args.first) e c.loop-slot.invariant
