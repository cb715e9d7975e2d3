-- Lists as functions of a place.
use Rattle.std.specs.Prelude.{ℕ, zero, suc, List, [], ◌∷◌}

-- f of the item at a place, and d past the end
abbrev pub at : {A B : Type 0} → (A → B) → B → List A → ℕ → B
at f d [] i = d
at f d (x ∷ xs) zero = f x
at f d (x ∷ xs) (suc i) = at f d xs i
