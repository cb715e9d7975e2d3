use Rattle.std.proofs.Common.{ap, ◌∙◌, ◌++◌, ◌∷◌, []}
use Rattle.plai_share.proofs.Widened.{wide_more}
use Rattle.plai_share.proofs.sharing.Sharing.widened_by.Goals as goal

pub loop-slot-preserved : goal.loop-slot-preserved
loop-slot-preserved c =
    let self = c.args.self in
    wide_more self.slots c.loop-slot.slot c.loop-slot.groups.items c.push.new.self.items c.loop-slot.free c.insert-free.result
    (record { slots = self.slots; groups = self.groups.items; free = self.free }) c.loop-slot.auto.slot c.loop-slot.invariant
    (c.in_ok-push.ensures.items ∙ ap (λ m. c.loop-slot.groups.items ++ (m ∷ [])) c.of.ensures) c.insert-free.ensures
