-- What unification sees of a term, as contracts see it.
use Rattle.std.specs.Prelude.{ℕ, ◌<◌}
use Rattle.plai_share_laws.specs.Shares as plain
use Rattle.plai_share.specs.declared.side.Side.{Side}
use Rattle.plai_share.specs.declared.side.Side.TheVariants.{Slot, Other}

-- the side as the laws have it
abbrev pub seen : Side → plain.Side
seen (Slot slot) = plain.Slot slot
seen (Other slots) = plain.Other slots

-- a slot is below the bound
abbrev pub IsBelow : ℕ → Side → Type 0
IsBelow n (Slot slot) = slot < n
IsBelow n (Other slots) = Unit {0}
