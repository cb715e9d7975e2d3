-- A term that stands in another one, with variables of its own: they are numbered from 0 in the order in which they first
-- stand in it (ISO/IEC 13211-1:1995, 7.1.1.1 on the variables of a term, and 7.1.6.1 on variants).
use Rattle.std.specs.Prelude.{ℕ, nat_eq, List, [], ◌∷◌, ◌++◌, length, fold, flat_map, unwrap_or, if◌then◌else◌}
use Rattle.std.specs.List.{list_any, position}
use Rattle.plai_terms.specs.declared.term.Term.{Term, Var, fold-Term}
use Rattle.plai_terms.specs.declared.term.Term.TheOpen.{Term-F}
use Rattle.plai_terms.specs.declared.read_term.ReadTerm.{ReadTerm}
use Rattle.plai_terms.specs.Substitution.{under}

-- one level: the variables of the arguments, from the first argument
abbrev pub occurrences_step : Term-F (List ℕ) → List ℕ
occurrences_step (Term-F.Var v) = v ∷ []
occurrences_step (Term-F.Int _) = []
occurrences_step (Term-F.Atom _) = []
occurrences_step (Term-F.Compound _ parts) = flat_map (λ part. part) parts

-- the variables as they stand in the term, from the left
abbrev pub occurrences : Term → List ℕ
occurrences = fold-Term (List ℕ) occurrences_step

-- one more variable behind others, unless it is there, and several in order
abbrev pub with_variable : List ℕ → ℕ → List ℕ
with_variable seen v = if list_any (nat_eq v) seen then seen else seen ++ v ∷ []

abbrev pub with_variables : List ℕ → List ℕ → List ℕ
with_variables = fold with_variable

-- each of the variables once, in the order in which they first stand in the term
abbrev pub variables_of : Term → List ℕ
variables_of t = with_variables [] (occurrences t)

-- a variable becomes its place among these
abbrev pub numbered : List ℕ → ℕ → Term
numbered variables v = Var (unwrap_or (position (nat_eq v) variables) 0)

-- the term with variables of its own
abbrev pub own_term : Term → ReadTerm
own_term t = record { term = under (numbered (variables_of t)) t; variables = length (variables_of t) }
