-- What unification of sharing and freeness sees of a term (Muthukumar and Hermenegildo 1992).
use Rattle.std.specs.Prelude.{ℕ, ◌+◌, List, [], ◌∷◌, Option, Some, None, bit_or}
use Rattle.plai_base.specs.Mask.{mask_of}
use Rattle.plai_terms.specs.declared.term.Term.{Term, fold-Term}
use Rattle.plai_terms.specs.declared.term.Term.TheOpen.{Term-F}
use Rattle.plai_share_laws.specs.Shares.{Side, Slot, Other}

-- the variable that the term is
abbrev pub variable_step : Term-F (Option ℕ) → Option ℕ
variable_step (Term-F.Var v) = Some v
variable_step (Term-F.Int n) = None
variable_step (Term-F.Atom a) = None
variable_step (Term-F.Compound name args) = None

abbrev pub variable_of : Term → Option ℕ
variable_of = fold-Term (Option ℕ) variable_step

-- the union of sets
abbrev pub unions : List ℕ → ℕ
unions [] = 0
unions (x ∷ xs) = bit_or x (unions xs)

-- the slots of a term's variables, the variable v having slot base + v
abbrev pub slots_step : ℕ → Term-F ℕ → ℕ
slots_step base (Term-F.Var v) = mask_of (base + v)
slots_step base (Term-F.Int n) = 0
slots_step base (Term-F.Atom a) = 0
slots_step base (Term-F.Compound name masks) = unions masks

abbrev pub term_slots : ℕ → Term → ℕ
term_slots base = fold-Term ℕ (slots_step base)

abbrev pub side_by : ℕ → Option ℕ → ℕ → Side
side_by base (Some v) mask = Slot (base + v)
side_by base None mask = Other mask

-- what unify sees of the term
abbrev pub side_of : ℕ → Term → Side
side_of base t = side_by base (variable_of t) (term_slots base t)
