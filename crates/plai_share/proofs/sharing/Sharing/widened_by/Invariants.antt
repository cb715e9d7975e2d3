use Rattle.std.proofs.Common.{◌≡◌, ◌-◌}
use Rattle.plai_share_laws.specs.Shares.{Shares, widen_by}
use Rattle.plai_share.proofs.sharing.Sharing.widened_by.Given as goal

abbrev pub invariant-loop-slot : goal.invariant-loop-slot
invariant-loop-slot l = ◌≡◌ {A = Shares} (record { slots = l.slot; groups = l.groups.items; free = l.free })
    (widen_by (l.slot - l.slots) (record { slots = l.slots; groups = l.initial.groups.items; free = l.initial.free }))
