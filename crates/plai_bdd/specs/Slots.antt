-- Conjunction and existential quantification over a set of slots, as Armstrong, Marriott, Schachte and Søndergaard use them, "Two
-- Classes of Boolean Functions for Dependency Analysis", Science of Computer Programming 31 (1), 1998.
use Rattle.std.specs.Prelude.{◌≡◌, ℕ, ◌<◌, Bool, true, false, cond, not, ◌&&◌, ◌||◌, ◌⊎◌, IsTrue}
use Rattle.std.proofs.Common.{zero, suc}
use Rattle.plai_base.specs.Mask.{has_slot}
use Rattle.plai_bdd.specs.Assignment.{Assignment, with_slot}

-- whether the slots of the set below a bound are all true
unfoldable pub all_hold : ℕ → ℕ → Assignment → Bool
all_hold mask zero at = true
all_hold mask (suc n) at = all_hold mask n at && (not (has_slot mask n) || at n)

-- the function, or what it is at some answer of one slot if that is in the set
abbrev pub some_slot : ℕ → ℕ → (Assignment → Bool) → Assignment → Bool
some_slot mask slot f at = cond (has_slot mask slot) (f (with_slot at slot false) || f (with_slot at slot true)) (f at)

-- whether the function is true at some answers of the slots of the set below a bound
unfoldable pub some_hold : ℕ → ℕ → (Assignment → Bool) → Assignment → Bool
some_hold mask zero f at = f at
some_hold mask (suc n) f at = some_hold mask n (some_slot mask n f) at

-- the same two, of a whole set of slots from 0 to 63
abbrev pub conjunction : ℕ → Assignment → Bool
conjunction mask at = all_hold mask 64 at

abbrev pub quantified : ℕ → (Assignment → Bool) → Assignment → Bool
quantified mask f at = some_hold mask 64 f at

-- in words: each slot of the set is true
abbrev pub AllTrue : ℕ → Assignment → Type 0
AllTrue mask at = (slot : ℕ) → slot < 64 → IsTrue (has_slot mask slot) → IsTrue (at slot)

-- in words: the assignments differ at most at slots of the set
abbrev pub DifferWithin : ℕ → Assignment → Assignment → Type 0
DifferWithin mask left right = (slot : ℕ) → (left slot ≡ right slot) ⊎ ((slot < 64) × IsTrue (has_slot mask slot))

-- in words: the function is true at an assignment that differs only within the set
abbrev pub Somewhere : ℕ → (Assignment → Bool) → Assignment → Type 0
Somewhere mask f at = (other : Assignment) × (DifferWithin mask other at × IsTrue (f other))
