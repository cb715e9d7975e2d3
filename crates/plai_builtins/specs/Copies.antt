-- Copies of terms with new variables (ISO/IEC 13211-1:1995, 7.1.6.2, variants of a term).
use Rattle.std.specs.Prelude.{ℕ, suc, not, nat_eq, List, [], ◌∷◌, filter, flat_map}
use Rattle.plai_terms.specs.declared.term.Term.{Term, Var, fold-Term}
use Rattle.plai_terms.specs.declared.term.Term.TheOpen.{Term-F}
use Rattle.plai_terms.specs.Subst.{apply_of}
use Rattle.plai_terms.specs.Unification.{Bindings}

-- one level: the variables of the arguments, from the first argument
abbrev pub occurrences_step : Term-F (List ℕ) → List ℕ
occurrences_step (Term-F.Var v) = v ∷ []
occurrences_step (Term-F.Int _) = []
occurrences_step (Term-F.Atom _) = []
occurrences_step (Term-F.Compound _ parts) = flat_map (λ part. part) parts

-- the variables as they stand in the term, from the left
abbrev pub occurrences : Term → List ℕ
occurrences = fold-Term (List ℕ) occurrences_step

-- each of these once, where it stands first
abbrev pub each_once : List ℕ → List ℕ
each_once [] = []
each_once (v ∷ vs) = v ∷ filter (λ w. not (nat_eq w v)) (each_once vs)

-- the variables of a term, in the order of their first appearance
abbrev pub variables_of : Term → List ℕ
variables_of t = each_once (occurrences t)

-- binds the variables to new ones, numbered from a first one on
abbrev pub renaming : ℕ → List ℕ → Bindings
renaming first [] = []
renaming first (v ∷ vs) = (v, Var first) ∷ renaming (suc first) vs

-- the term with new variables, numbered from a first one on in the order of their first appearance
abbrev pub copy_of : ℕ → Term → Term
copy_of first t = apply_of (renaming first (variables_of t)) t
