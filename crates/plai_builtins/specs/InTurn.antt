-- What several actions allow, one after the other (Muthukumar and Hermenegildo 1992).
use Rattle.std.specs.Prelude.{◌≡◌, ℕ, ◌<◌, ◌≤◌, List, [], ◌∷◌, map}
use Rattle.plai_terms.specs.declared.term.Term.{Term, Var}
use Rattle.plai_terms.specs.Substitution.{under, then_also, IsBelow}
use Rattle.plai_domain.specs.declared.action.Action.{Action}
use Rattle.plai_domain.specs.Allowed.{Allows}

-- Below the number n, the substitution is one that the first action allows at the terms, and then one that the others allow at
-- what the terms are by then. Each action has a number of its own: n, and then numbers above all that came before.
abbrev pub AllowedInTurn : ℕ → List Action → List Term → (ℕ → Term) → Type 0
AllowedInTurn n [] ts f = (v : ℕ) → v < n → f v ≡ Var v
AllowedInTurn n (action ∷ actions) ts f =
    (first : ℕ → Term) × (others : ℕ → Term) × (m : ℕ) × Allows action n ts first × (n ≤ m)
    × ((v : ℕ) → v < n → IsBelow m (first v))
    × AllowedInTurn m actions (map (under first) ts) others × ((v : ℕ) → v < n → f v ≡ then_also first others v)
