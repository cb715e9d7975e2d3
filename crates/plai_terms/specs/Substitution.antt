-- Substitutions as functions from variables to terms, and the variables that they move and bring.
use Rattle.std.specs.Prelude.{◌≡◌, ◌⊎◌, ℕ, ◌+◌, ◌<◌, ◌≤◌, Bool, true, false, ◌||◌, List, [], ◌∷◌}
use Rattle.plai_terms.specs.Term.{occurs}
use Rattle.plai_terms.specs.declared.term.Term.{Term, fold-Term, Var, Int, Atom, Compound}
use Rattle.plai_terms.specs.declared.term.Term.TheOpen.{Term-F}

-- one level, whose arguments are replaced already
abbrev pub under_step : (ℕ → Term) → Term-F Term → Term
under_step f (Term-F.Var v) = f v
under_step f (Term-F.Int n) = Int n
under_step f (Term-F.Atom a) = Atom a
under_step f (Term-F.Compound name args) = Compound name args

-- a term with each variable replaced
abbrev pub under : (ℕ → Term) → Term → Term
under f = fold-Term Term (under_step f)

-- f, and then g
abbrev pub then_also : (ℕ → Term) → (ℕ → Term) → ℕ → Term
then_also f g v = under g (f v)

-- the renaming that adds a number to each variable
abbrev pub raised : ℕ → ℕ → Term
raised n v = Var (v + n)

abbrev pub occurs_in : ℕ → List Term → Bool
occurs_in v [] = false
occurs_in v (t ∷ ts) = occurs v t || occurs_in v ts

-- each variable of the term is below the number
abbrev pub IsBelow : ℕ → Term → Type 0
IsBelow n t = (v : ℕ) → occurs v t ≡ true → v < n

-- the same of a list of terms
abbrev pub AreBelow : ℕ → List Term → Type 0
AreBelow n ts = (v : ℕ) → occurs_in v ts ≡ true → v < n

-- Of the variables below the number, f moves only those of the terms, and brings for them only variables of the terms
-- or variables from the number on.
pub record IsLocal (f : ℕ → Term) (from : ℕ) (ts : List Term) : Type 0 where
  pub moves : (v : ℕ) → v < from → occurs_in v ts ≡ false → f v ≡ Var v
  pub brings : (v w : ℕ) → v < from → occurs_in v ts ≡ true → occurs w (f v) ≡ true → (occurs_in w ts ≡ true) ⊎ (from ≤ w)
