-- Masks with a slot, and masks without it.
use Rattle.std.specs.Prelude.{ℕ, not, List, ◌++◌, map, filter, bit_or}
use Rattle.plai_base.specs.Mask.{has_slot, mask_of}
use Rattle.plai_share_laws.specs.Groups.{normal}

-- those with the slot
abbrev pub having : ℕ → List ℕ → List ℕ
having slot masks = filter (λ m. has_slot m slot) masks

-- those without it
abbrev pub lacking : ℕ → List ℕ → List ℕ
lacking slot masks = filter (λ m. not (has_slot m slot)) masks

-- all of them, with the slot
abbrev pub with_slot : ℕ → List ℕ → List ℕ
with_slot slot masks = normal (map (bit_or (mask_of slot)) (lacking slot masks) ++ having slot masks)
