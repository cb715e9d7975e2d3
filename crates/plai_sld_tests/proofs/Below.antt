-- A goal of one argument.
use Rattle.std.proofs.Common.{◌≡◌, ℕ, Bool, true, false, ◌||◌, List, [], ◌∷◌, refl, sym, ap, ◌∙◌}
use Rattle.plai_terms.specs.Term.{occurs}
use Rattle.plai_terms.specs.Substitution.{occurs_in, IsBelow, AreBelow}
use Rattle.plai_terms.specs.declared.term.Term.{Term}

one_of : (b : Bool) → (b || false) ≡ true → b ≡ true
one_of true holds = refl
one_of false fails = fails

pub one_is_below : (n : ℕ) (t : Term) (ts : List Term) → ts ≡ t ∷ [] → IsBelow n t → AreBelow n ts
one_is_below n t ts e below v o = below v (one_of (occurs v t) (sym (ap (occurs_in v) e) ∙ o))
