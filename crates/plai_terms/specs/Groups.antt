-- The text of sharing groups and free slots (Jacobs and Langen 1992; Muthukumar and Hermenegildo 1992).
use Rattle.std.specs.Prelude.{ℕ, ◌+◌, List, [], ◌∷◌, ◌++◌, map, if◌then◌else◌, decimal, codes}
use Rattle.std.specs.List.{join_with_byte}
use Rattle.std.specs.Ordering.{nat_cmp, is_le}
use Rattle.std.specs.Cmp.Lexicographic.{slice_cmp}
use Rattle.plai_base.specs.Mask.{slots_of}

-- the slots x among lists of slots in their order, a prefix first
abbrev pub placed : List ℕ → List (List ℕ) → List (List ℕ)
placed x [] = x ∷ []
placed x (y ∷ ys) = if is_le (slice_cmp nat_cmp x y) then x ∷ y ∷ ys else y ∷ placed x ys

-- lists of slots in their order, a prefix first
abbrev pub ordered : List (List ℕ) → List (List ℕ)
ordered [] = []
ordered (x ∷ xs) = placed x (ordered xs)

-- a slot prints as its number from 1
abbrev pub slot_text : ℕ → List ℕ
slot_text slot = decimal (slot + 1)

-- the slots of a group in order, joined by dots
abbrev pub group_text : List ℕ → List ℕ
group_text slots = join_with_byte 46 (map slot_text slots)

-- `sh={G,..} fr={i,..}`
abbrev pub groups_text : List ℕ → ℕ → List ℕ
groups_text groups free =
    codes "sh={" ++ join_with_byte 44 (map group_text (ordered (map slots_of groups))) ++ codes "} fr={"
    ++ join_with_byte 44 (map slot_text (slots_of free)) ++ codes "}"
