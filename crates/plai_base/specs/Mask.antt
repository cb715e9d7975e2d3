-- Sets of slots, as the numbers with those bits.
use Rattle.std.specs.Prelude.{ℕ, ◌+◌, ◌-◌, ◌*◌, ◌^◌, Bool, nat_eq, cond, IsTrue, List, [], ◌∷◌, filter}
use Rattle.std.specs.List.{range_with_len}
use Rattle.std.specs.Int.{bit_at}

-- whether the slot is in the set
abbrev pub has_slot : ℕ → ℕ → Bool
has_slot mask slot = nat_eq (bit_at mask slot) 1

-- the set of one slot
abbrev pub mask_of : ℕ → ℕ
mask_of slot = 2 ^ slot

-- two sets have a slot in common
abbrev pub meet : ℕ → ℕ → Type 0
meet a b = (slot : ℕ) × (IsTrue (has_slot a slot) × IsTrue (has_slot b slot))

-- the slots of the set below a bound, in order
unfoldable pub slots_below : ℕ → ℕ → List ℕ
slots_below mask bound = filter (has_slot mask) (range_with_len 0 bound)

-- the slots of the set, in order
abbrev pub slots_of : ℕ → List ℕ
slots_of mask = slots_below mask 64

-- the set of the first n slots
abbrev pub all_true : ℕ → ℕ
all_true n = 2 ^ n - 1

-- the set of the slots, from slot 0 on, whose test in the list is true
abbrev pub pattern : List Bool → ℕ
pattern [] = 0
pattern (b ∷ bs) = cond b 1 0 + 2 * pattern bs
