-- Members of lists, ascending lists, and sets of slots by a test.
use Rattle.std.specs.Prelude.{zero, suc, Bool, cond, bit_or, ◌≡◌, ◌⊎◌, ℕ, ◌<◌, List, [], ◌∷◌}
use Rattle.plai_base.specs.Mask.{mask_of}

-- x is in the list
abbrev pub IsIn : {A : Type 0} → A → List A → Type 0
IsIn x [] = ⊥
IsIn x (y ∷ ys) = (y ≡ x) ⊎ IsIn x ys

-- each member of the first list is in the second
abbrev pub IsWithin : {A : Type 0} → List A → List A → Type 0
IsWithin {A} xs ys = (x : A) → IsIn x xs → IsIn x ys

-- every member is above m
abbrev pub AreAbove : ℕ → List ℕ → Type 0
AreAbove m xs = (x : ℕ) → IsIn x xs → m < x

-- ascending, without repeats
abbrev pub IsAscending : List ℕ → Type 0
IsAscending [] = Unit {0}
IsAscending (x ∷ xs) = AreAbove x xs × IsAscending xs

-- the set of the slots below n that pass the test
unfoldable pub mask_from : (ℕ → Bool) → ℕ → ℕ
mask_from test zero = 0
mask_from test (suc n) = cond (test n) (bit_or (mask_from test n) (mask_of n)) (mask_from test n)
