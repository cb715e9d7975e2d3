-- Substitutions that wait behind an item, to be put on the items below it when one of these comes to the front.
use Rattle.std.specs.Prelude.{◌≡◌, ℕ, ◌<◌, if◌then◌else◌, ◌==◌, Option, Some, None, List, [], ◌∷◌, map}
use Rattle.plai_terms.specs.Subst.{bound_to}
use Rattle.plai_terms.specs.declared.term.Term.{Term}
use Rattle.plai_terms.specs.Substitution.{then_also}
use Rattle.plai_terms.specs.Unification.{Bindings}

-- the variables that are bound
abbrev pub keys : Bindings → List ℕ
keys = map (λ b. b.0)

-- of variables below the limit, the bindings are those of two substitutions, one after the other
abbrev pub AreBoth : Bindings → Bindings → ℕ → Bindings → Type 0
AreBoth first second limit both = (v : ℕ) → v < limit → bound_to both v ≡ then_also (bound_to first) (bound_to second) v

-- the term that a variable is bound to, if it is
abbrev pub found : Bindings → ℕ → Option Term
found [] v = None
found (b ∷ bs) v = if b.0 == v then Some b.1 else found bs v

-- that term, or else the one that this binding has for the variable
abbrev pub found_or : Option Term → ℕ × Term → ℕ → Option Term
found_or (Some t) b v = Some t
found_or None b v = if b.0 == v then Some b.1 else None

-- of variables below the limit, the bindings are those before with this one behind them
abbrev pub HaveMore : ℕ → ℕ × Term → Bindings → Bindings → Type 0
HaveMore limit b before after = (v : ℕ) → v < limit → found after v ≡ found_or (found before v) b v
