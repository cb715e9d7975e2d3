-- Connectives, and changes of slots: what they do to slots and to assignments (Bryant 1986, section 4: apply, restrict).
use Rattle.std.specs.Prelude.{ℕ, ◌+◌, ◌-◌, ◌<◌, ◌≤◌, Bool, true, false, cond, not, nat_eq, ◌&&◌, ◌||◌, ◌⊎◌}
use Rattle.std.specs.Bool.{beq}
use Rattle.plai_bdd.specs.declared.change.Connective.{Connective}
use Rattle.plai_bdd.specs.declared.change.Connective.TheVariants.{And, Or, Iff}
use Rattle.plai_bdd.specs.declared.change.Change.{Change}
use Rattle.plai_bdd.specs.declared.change.Change.TheVariants.{Keep, Fix, Apart, Raise, Lower}
use Rattle.plai_bdd.specs.declared.change.Placed.{Placed}
use Rattle.plai_bdd.specs.declared.change.Placed.TheVariants.{At, Fixed, Parted}
use Rattle.plai_bdd.specs.Assignment.{Assignment, IsFree, with_slot}
use Rattle.plai_bdd.specs.Tree.{Tree, Tip, Fork, value}

abbrev pub answer_of : Connective → Bool → Bool → Bool
answer_of And a b = a && b
answer_of Or a b = a || b
answer_of Iff a b = beq a b

-- the answer on one side decides what the connective makes of the two
abbrev pub absorbs : Connective → Bool → Bool
absorbs And answer = not answer
absorbs Or answer = answer
absorbs Iff answer = false

-- where a slot comes to stand, or with which answer it goes
abbrev pub placed : Change → ℕ → Placed
placed Keep slot = At slot
placed (Fix fixed answer) slot = cond (nat_eq slot fixed) (Fixed answer) (At slot)
placed (Apart parted) slot = cond (nat_eq slot parted) Parted (At slot)
placed (Raise by) slot = At (slot + by)
placed (Lower by) slot = At (slot - by)

-- the slot comes to stand on a slot
abbrev pub can_place : Change → ℕ → Type 0
can_place Keep slot = Unit {0}
can_place (Fix fixed answer) slot = Unit {0}
can_place (Apart parted) slot = Unit {0}
can_place (Raise by) slot = slot + by < 64
can_place (Lower by) slot = by ≤ slot

-- each slot comes to stand on a slot, or the function does not depend on it
abbrev pub IsPlaceable : Change → (Assignment → Bool) → Type 0
IsPlaceable change f = (slot : ℕ) → can_place change slot ⊎ IsFree f slot

-- a lower bound of where the slots from this one on come to stand
abbrev pub moved : Change → ℕ → ℕ
moved Keep slot = slot
moved (Fix fixed answer) slot = slot
moved (Apart parted) slot = slot
moved (Raise by) slot = slot + by
moved (Lower by) slot = slot - by

-- the assignment that the unchanged function is asked at, on the left side (false) or the right side (true)
abbrev pub changed : Change → Bool → Assignment → Assignment
changed Keep side at = at
changed (Fix fixed answer) side at = with_slot at fixed answer
changed (Apart parted) side at = with_slot at parted side
changed (Raise by) side at = λ k. at (k + by)
changed (Lower by) side at = λ k. at (k - by)

-- each slot of the tree passes
abbrev pub AllSlots : (ℕ → Type 0) → Tree → Type 0
AllSlots P (Tip answer) = Unit {0}
AllSlots P (Fork slot low high) = P slot × AllSlots P low × AllSlots P high

-- the top slot, or 64
abbrev pub top_of : Tree → ℕ
top_of (Tip answer) = 64
top_of (Fork slot low high) = slot

-- the two trees' answers, joined, after the change
abbrev pub combined : Connective → Change → Tree → Tree → Assignment → Bool
combined connective change left right at = answer_of connective (value left (changed change false at)) (value right (changed change true at))
