-- Sets of slots, which are masks, and sets of such groups, which are ascending lists
-- (Jacobs and Langen 1992).
use Rattle.std.specs.Prelude.{◌≡◌, ℕ, Bool, true, cond, not, nat_eq, nat_lt, List, [], ◌∷◌, ◌++◌, map, filter, bit_and, bit_or, bit_xor}
use Rattle.plai_base.specs.Mask.{has_slot}

-- the slot is in the set
abbrev pub Has : ℕ → ℕ → Type 0
Has mask slot = has_slot mask slot ≡ true

-- two sets have a slot in common
unfoldable pub meets : ℕ → ℕ → Bool
meets a b = not (nat_eq (bit_and a b) 0)

-- they have none
abbrev pub misses : ℕ → ℕ → Bool
misses a b = not (meets a b)

-- the first set without the slots of the second
unfoldable pub without : ℕ → ℕ → ℕ
without a b = bit_xor a (bit_and a b)

-- each slot of the first set is in the second
abbrev pub IsPart : ℕ → ℕ → Type 0
IsPart a b = (slot : ℕ) → Has a slot → Has b slot

-- a mask put into an ascending list
abbrev pub put : ℕ → List ℕ → List ℕ
put m [] = m ∷ []
put m (x ∷ xs) = cond (nat_lt m x) (m ∷ x ∷ xs) (cond (nat_lt x m) (x ∷ put m xs) (x ∷ xs))

-- the ascending list without repeats of the members
abbrev pub normal : List ℕ → List ℕ
normal [] = []
normal (x ∷ xs) = put x (normal xs)

-- the groups that meet the set
abbrev pub rel : ℕ → List ℕ → List ℕ
rel set groups = filter (meets set) groups

-- the groups that miss the set
abbrev pub missing : ℕ → List ℕ → List ℕ
missing set groups = filter (misses set) groups

-- all unions of one or more members
abbrev pub star : List ℕ → List ℕ
star [] = []
star (a ∷ xs) = a ∷ (star xs ++ map (bit_or a) (star xs))

-- all unions of a member of each
abbrev pub bin : List ℕ → List ℕ → List ℕ
bin [] ys = []
bin (a ∷ xs) ys = map (bit_or a) ys ++ bin xs ys

-- the slots of the groups that meet the set
abbrev pub near : ℕ → List ℕ → ℕ
near set [] = 0
near set (g ∷ gs) = cond (meets set g) (bit_or g (near set gs)) (near set gs)
