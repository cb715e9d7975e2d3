-- Changes of a list of items, each of which may be looked for by a test of equality.
use Rattle.std.specs.Prelude.{◌≡◌, ℕ, ◌<◌, Bool, true, false, List, [], ◌∷◌, ◌++◌, slice_set}
use Rattle.std.specs.List.{count_by, swap_remove}
use Rattle.plai_arcs.specs.declared.change.Change.{Change}
use Rattle.plai_arcs.specs.declared.change.Change.TheVariants.{Push, Take, Rename, Mark}
use Rattle.plai_arcs.specs.Places.{at}

-- the list after a change at a place
abbrev pub changed : {T : Type 0} → Change T → ℕ → List T → List T
changed (Push x mark) place xs = xs ++ x ∷ []
changed (Take x hint) place xs = swap_remove xs place x
changed (Rename x y hint) place xs = slice_set xs place y
changed (Mark place mark) _ xs = xs

-- the item to be taken or renamed stands at the place
abbrev pub IsFound : {T : Type 0} → (T → T → Bool) → Change T → ℕ → List T → Type 0
IsFound eq (Push x mark) place xs = Unit {0}
IsFound eq (Take x hint) place xs = at (eq x) false xs place ≡ true
IsFound eq (Rename x y hint) place xs = at (eq x) false xs place ≡ true
IsFound eq (Mark place mark) _ xs = Unit {0}

-- there is room for the item that comes, and the one to be taken or renamed is there
abbrev pub CanChange : {T : Type 0} → (T → T → Bool) → Change T → ℕ → List T → Type 0
CanChange eq (Push x mark) room xs = 0 < room
CanChange eq (Take x hint) room xs = 0 < count_by (eq x) xs
CanChange eq (Rename x y hint) room xs = 0 < count_by (eq x) xs
CanChange eq (Mark place mark) room xs = Unit {0}

-- how much room a change takes
abbrev pub room_taken : {T : Type 0} → Change T → ℕ
room_taken (Push x mark) = 1
room_taken (Take x hint) = 0
room_taken (Rename x y hint) = 0
room_taken (Mark place mark) = 0
