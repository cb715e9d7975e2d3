-- The text of a set of assignments: its reduced ordered decision tree, in which a slot stands only where the rest depends on it (Bryant 1986).
use Rattle.std.specs.Prelude.{ℕ, zero, suc, ◌+◌, ◌*◌, ◌^◌, Bool, false, ◌||◌, not, cond, List, [], ◌∷◌, ◌++◌, decimal, slice_index_or}
use Rattle.std.specs.Bool.{beq}
use Rattle.plai_base.specs.Sets.{has}

-- all assignments, none, or a slot with what is left where it is true, and where it is false
pub data Shape : Type 0 where
  All : Shape
  None : Shape
  Node : ℕ → Shape → Shape → Shape

-- some assignment below the bound to the later slots passes with the first slot true or with it false, and not with both
unfoldable pub depends : ℕ → (ℕ → Bool) → Bool
depends zero f = false
depends (suc b) f = not (beq (f (2 * b + 1)) (f (2 * b))) || depends b f

-- of a function of k slots, the first of which is numbered i and is the lowest bit of an assignment
unfoldable pub shape : ℕ → ℕ → (ℕ → Bool) → Shape
shape zero i f = cond (f 0) All None
shape (suc k) i f =
    cond (depends (2 ^ k) f)
    (Node i (shape k (suc i) (λ m. f (2 * m + 1))) (shape k (suc i) (λ m. f (2 * m))))
    (shape k (suc i) (λ m. f (2 * m)))

-- `t`, `f` or `(i Y N)`
abbrev pub shape_text : Shape → List ℕ
shape_text All = 116 ∷ []
shape_text None = 102 ∷ []
shape_text (Node i y n) = 40 ∷ (decimal i ++ 32 ∷ (shape_text y ++ 32 ∷ (shape_text n ++ 41 ∷ [])))

-- of a list of assignments to n slots, numbered from 1
abbrev pub set_text : ℕ → List ℕ → List ℕ
set_text n masks = shape_text (shape n 1 (has masks))

-- a function of the later slots, as every step-th truth of a table from a first one on
abbrev pub entry : List Bool → ℕ → ℕ → ℕ → Bool
entry flags first step m = slice_index_or flags (first + step * m) false
