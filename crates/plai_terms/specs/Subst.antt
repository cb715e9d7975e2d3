-- Substitutions, and what they make of a term (ISO/IEC 13211-1:1995, 7.3.1; Lloyd, Foundations of Logic Programming, 1987).
use Rattle.std.specs.Prelude.{ℕ, if◌then◌else◌, ◌==◌, List, [], ◌∷◌, ◌++◌, map, filter}
use Rattle.std.specs.List.{list_any}
use Rattle.plai_terms.specs.Substitution.{under}
use Rattle.plai_terms.specs.declared.term.Term.{Term, Var}

-- the term that a variable is bound to, or the variable
abbrev pub bound_to : List (ℕ × Term) → ℕ → Term
bound_to [] v = Var v
bound_to (p ∷ ps) v = if p.0 == v then p.1 else bound_to ps v

-- a term with each bound variable replaced
abbrev pub apply_of : List (ℕ × Term) → Term → Term
apply_of s = under (bound_to s)

-- the bindings of `first`, and then those of `second` put into them and after them
abbrev pub composed : List (ℕ × Term) → List (ℕ × Term) → List (ℕ × Term)
composed first second = map (λ p. (p.0, apply_of second p.1)) first ++ second

-- the bindings of these variables alone
abbrev pub restricted_to : List ℕ → List (ℕ × Term) → List (ℕ × Term)
restricted_to variables s = filter (λ p. list_any (λ v. v == p.0) variables) s
