-- Clauses, and skeletons of their arguments, for the examples of terms cut at a depth (Sato and Tamaki 1984).
use Rattle.std.specs.Prelude.{ℕ, List, [], ◌∷◌, codes}
use Rattle.plai_terms.specs.declared.term.Term.{Term, Compound}
use Rattle.plai_terms.specs.declared.skeleton.Skeleton as skeleton
use Rattle.plai_terms.specs.declared.skeleton.Skeleton.{Skeleton}
use Rattle.plai_terms.specs.declared.abs.Abs.{Abs}
use Rattle.plai_terms.specs.declared.abs.Abs.TheVariants.{Terms}

-- the successor of a term
abbrev pub successor : Term → Term
successor t = Compound (codes "s") (t ∷ [])

-- a list cell
abbrev pub cell : Term → Term → Term
cell head tail = Compound (codes ".") (head ∷ tail ∷ [])

-- a compound of one argument, and its skeleton
abbrev pub of_one : List ℕ → Term → Term
of_one name t = Compound name (t ∷ [])

abbrev pub skeleton_of_one : List ℕ → Skeleton → Skeleton
skeleton_of_one name s = skeleton.Compound name (s ∷ [])

abbrev pub skeleton_cell : Skeleton → Skeleton → Skeleton
skeleton_cell head tail = skeleton.Compound (codes ".") (head ∷ tail ∷ [])

-- values of one argument and of two
abbrev pub one : Skeleton → Abs
one s = Terms (s ∷ [])

abbrev pub two : Skeleton → Skeleton → Abs
two s t = Terms (s ∷ t ∷ [])
