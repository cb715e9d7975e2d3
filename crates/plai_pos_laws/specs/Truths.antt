-- The truths of terms under an assignment, and what enters a clause by them (Marriott and Sondergaard 1993).
use Rattle.std.specs.Prelude.{ℕ, suc, ◌/◌, ◌%◌, ◌^◌, Bool, true, ◌&&◌, nat_eq, List, [], ◌∷◌, map}
use Rattle.plai_base.specs.Mask.{has_slot, pattern}
use Rattle.plai_base.specs.Sets.{has}
use Rattle.plai_terms.specs.declared.term.Term.{Term}
use Rattle.plai_pos_laws.specs.Assignments.{holds, variable_in, agree}

-- whether each term's variables are all true
abbrev pub truths : ℕ → ℕ → List Term → List Bool
truths n x terms = map (holds (variable_in n x)) terms

-- the slots from a first one on have these truths
abbrev pub agrees : ℕ → List Bool → ℕ → Bool
agrees slot [] y = true
agrees slot (b ∷ bs) y = agree (has_slot y slot) b && agrees (suc slot) bs y

-- the assignment to the terms, where variable v is true if slot v of y is
abbrev pub pattern_of : List Term → ℕ → ℕ
pattern_of terms y = pattern (map (holds (has_slot y)) terms)

-- the assignments that enter leaves: the arguments' part is that of the head, and in the call
abbrev pub enters : ℕ → List Term → List ℕ → ℕ → Bool
enters n head call z = has call (z % 2 ^ n) && nat_eq (pattern_of head (z / 2 ^ n)) (z % 2 ^ n)
