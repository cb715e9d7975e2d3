-- What is noted of pairs of places (the memo on pairs is Bryant's, 1986, section 4.3), in one of three ways.
use Rattle.std.specs.Prelude.{◌≡◌, ℕ, zero, suc, ◌+◌, ◌*◌, Bool, cond, nat_eq, nat_lt, ◌&&◌, ◌⊎◌, List, get_or, Option, None, Some}
use Rattle.indexmap.specs.IndexMap.{get}
use Rattle.plai_bdd.specs.declared.memo.Pair.{Pair}
use Rattle.plai_bdd.specs.declared.memo.Memo.{Memo}
use Rattle.plai_bdd.specs.declared.memo.Memo.TheVariants.{Nothing, Dense, Sparse}

abbrev pub same_pair : Pair → Pair → Bool
same_pair a b = nat_eq a.left b.left && nat_eq a.right b.right

-- the number before this one, if there is one
abbrev pub number_before : ℕ → Option ℕ
number_before zero = None
number_before (suc n) = Some n

-- the place at a pair of places below 64, one more than which stands in the list
abbrev pub dense_at : List ℕ → Pair → Option ℕ
dense_at places pair = cond (nat_lt pair.left 64 && nat_lt pair.right 64) (number_before (get_or places (64 * pair.left + pair.right) 0)) None

-- the place that is noted of a pair
abbrev pub noted_at : Memo → Pair → Option ℕ
noted_at Nothing pair = None
noted_at (Dense places) pair = dense_at places.items pair
noted_at (Sparse places) pair = get same_pair places pair

-- nothing is noted
abbrev pub IsBlank : Memo → Type 0
IsBlank memo = (pair : Pair) → noted_at memo pair ≡ None

-- the place is all that is noted more, of the pair
abbrev pub NotesOne : (Pair → Option ℕ) → (Pair → Option ℕ) → Pair → ℕ → Type 0
NotesOne old new pair place = (other : Pair) (known : ℕ) → new other ≡ Some known → (old other ≡ Some known) ⊎ ((other ≡ pair) × (known ≡ place))
