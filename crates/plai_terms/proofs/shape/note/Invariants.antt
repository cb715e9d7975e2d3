use Rattle.std.proofs.Common.{◌≡◌, ℕ, ◌<◌, false, length, get_or, take}
use Rattle.plai_base.specs.Sets.{has}
use Rattle.plai_terms.proofs.shape.note.Given as goal

abbrev pub invariant-loop-mask : goal.invariant-loop-mask
invariant-loop-mask l = (m : ℕ) → m < length l.flags → get_or l.flags m false ≡ has (take l.mask-index l.masks) m
