-- A number that gets smaller with each strict growth.
use Rattle.std.specs.Prelude.{ℕ, zero, suc, ◌+◌, ◌-◌, ◌^◌, cond, length}
use Rattle.plai_base.specs.Mask.{has_slot}
use Rattle.plai_share_laws.specs.Shares.{Shares}

-- how many slots below n the set has
abbrev pub count : ℕ → ℕ → ℕ
count zero mask = 0
count (suc n) mask = cond (has_slot mask n) (suc (count n mask)) (count n mask)

-- the groups that are missing, and the free slots
abbrev pub rank : ℕ → Shares → ℕ
rank n v = (2 ^ n - length v.groups) + count n v.free
