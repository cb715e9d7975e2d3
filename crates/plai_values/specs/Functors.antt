-- The evaluable functors (ISO/IEC 13211-1:1995, 9.1, 9.3 and 9.4, and `^` and `min` and `max` of its second corrigendum),
-- and the comparisons of values (8.7) and of terms (8.4), by their names.
use Rattle.std.specs.Prelude.{ℕ, cond, nat_eq, Option, Some, None, List, [], ◌∷◌, codes}
use Rattle.std.specs.Cmp.Lexicographic.{pointwise}
use Rattle.plai_values.specs.declared.functor.Unary.{Unary}
use Rattle.plai_values.specs.declared.functor.Unary.TheVariants.{Minus, Complement, Absolute, Sign}
use Rattle.plai_values.specs.declared.functor.Binary.{Binary}
use Rattle.plai_values.specs.declared.functor.Binary.TheVariants.{Add, Subtract, Multiply, Quotient, Remainder, Modulo, Divide, And, Or, ShiftLeft, ShiftRight, Least, Greatest, Power}
use Rattle.plai_values.specs.declared.comparison.Comparison.{Comparison}
use Rattle.plai_values.specs.declared.comparison.Comparison.TheVariants.{Eq, Ne, Lt, Le, Gt, Ge}

-- what the first row of this name gives
abbrev pub named : {A : Type 0} → List (List ℕ × A) → List ℕ → Option A
named [] name = None
named (row ∷ rows) name = cond (pointwise nat_eq name row.0) (Some row.1) (named rows name)

abbrev pub unary_named : List ℕ → Option Unary
unary_named = named ((codes "-", Minus) ∷ (codes "\\", Complement) ∷ (codes "abs", Absolute) ∷ (codes "sign", Sign) ∷ [])

abbrev pub binary_named : List ℕ → Option Binary
binary_named = named
    ((codes "+", Add) ∷ (codes "-", Subtract) ∷ (codes "*", Multiply)
    ∷ (codes "//", Quotient) ∷ (codes "rem", Remainder) ∷ (codes "mod", Modulo) ∷ (codes "/", Divide)
    ∷ (codes "/\\", And) ∷ (codes "\\/", Or) ∷ (codes "<<", ShiftLeft) ∷ (codes ">>", ShiftRight)
    ∷ (codes "min", Least) ∷ (codes "max", Greatest) ∷ (codes "^", Power) ∷ [])

-- a comparison of two values
abbrev pub comparison_named : List ℕ → Option Comparison
comparison_named = named
    ((codes "=:=", Eq) ∷ (codes "=\\=", Ne) ∷ (codes "<", Lt) ∷ (codes "=<", Le) ∷ (codes ">", Gt) ∷ (codes ">=", Ge) ∷ [])

-- a comparison of two terms in the standard order
abbrev pub term_comparison_named : List ℕ → Option Comparison
term_comparison_named = named
    ((codes "==", Eq) ∷ (codes "\\==", Ne) ∷ (codes "@<", Lt) ∷ (codes "@=<", Le) ∷ (codes "@>", Gt) ∷ (codes "@>=", Ge) ∷ [])
