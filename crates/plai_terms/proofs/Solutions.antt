-- What solves equations, and the variables and the size of terms and equations.
use Rattle.std.proofs.Common.{◌≡◌, ◌⊎◌, ℕ, ◌+◌, Bool, true, false, ◌||◌, [], ◌∷◌, sum}
use Rattle.plai_terms.specs.Term.{occurs}
use Rattle.plai_terms.specs.Substitution.{under}
use Rattle.plai_terms.specs.Unification.{Equations}
use Rattle.plai_terms.specs.declared.term.Term.{Term, fold-Term, Var}
use Rattle.plai_terms.specs.declared.term.Term.TheOpen.{Term-F}

-- f makes the sides of each equation equal
abbrev pub Unifies : (ℕ → Term) → Equations → Type 0
Unifies f [] = Unit {0}
Unifies f (e ∷ es) = (under f e.0 ≡ under f e.1) × Unifies f es

abbrev pub occurs_there : ℕ → Equations → Bool
occurs_there v [] = false
occurs_there v (e ∷ es) = (occurs v e.0 || occurs v e.1) || occurs_there v es

-- d moves only variables of the equations, and brings only these
pub record IsLocalTo (d : ℕ → Term) (es : Equations) : Type 0 where
  pub moves : (v : ℕ) → occurs_there v es ≡ false → d v ≡ Var v
  pub brings : (v w : ℕ) → occurs w (d v) ≡ true → (w ≡ v) ⊎ (occurs_there w es ≡ true)

-- one level: one more than the sizes of the arguments
abbrev pub size_step : Term-F ℕ → ℕ
size_step (Term-F.Var _) = 1
size_step (Term-F.Int _) = 1
size_step (Term-F.Atom _) = 1
size_step (Term-F.Compound _ sizes) = 1 + sum sizes

abbrev pub size_of : Term → ℕ
size_of = fold-Term ℕ size_step
