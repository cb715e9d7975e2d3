-- What tuples of terms and what instances of a clause a set of assignments describes
-- (Marriott and Sondergaard 1993).
use Rattle.std.specs.Prelude.{◌≡◌, ℕ, Bool, true, List, ◌++◌, map}
use Rattle.plai_base.specs.Mask.{pattern}
use Rattle.plai_base.specs.Sets.{has}
use Rattle.plai_terms.specs.declared.term.Term.{Term}
use Rattle.plai_terms.specs.Term.{is_ground}
use Rattle.plai_terms.specs.Subst.{apply_of}

abbrev pub grounds : List Term → List Bool
grounds terms = map is_ground terms

-- the assignment "argument i is ground" of an instance of the tuple
abbrev pub ground_in : List (ℕ × Term) → List Term → ℕ
ground_in s terms = pattern (grounds (map (apply_of s) terms))

-- for each instance of the tuple, that assignment is in the set
abbrev pub describes : List ℕ → List Term → Type 0
describes xs terms = (s : List (ℕ × Term)) → has xs (ground_in s terms) ≡ true

-- the same of an instance of a clause: a term for each argument of the head and for each variable
abbrev pub describes_instance : List ℕ → List Term → List Term → Type 0
describes_instance xs head variables = describes xs (head ++ variables)
