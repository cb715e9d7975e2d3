-- The values of arithmetic expressions (ISO/IEC 13211-1:1995, 9.1, 9.3 and 9.4), here of integers from -2^127 to 2^127 - 1 alone.
use Rattle.std.specs.Prelude.{ℕ, suc, nat_lt, Bool, ℤ, pos, negsuc, ◌+ℤ◌, ◌-ℤ◌, ◌*ℤ◌, neg_ℤ, unsigned_abs, int_div, int_rem, if◌then◌else◌, Option, Some, None, option_and_then, List, [], ◌∷◌}
use Rattle.std.specs.Int.{w128, int_min, int_max, int_signum, int_pow, int_shr, int_bit_and, int_bit_or, int_bit_not, int_div_euclid}
use Rattle.std.specs.declared.cmp.Ordering.{Ordering}
use Rattle.std.specs.Ordering.{int_cmp, int_eq, is_eq, is_ne, is_lt, is_le, is_gt, is_ge}
use Rattle.plai_terms.specs.Term.{integer_fits}
use Rattle.plai_terms.specs.declared.term.Term.{Term, fold-Term}
use Rattle.plai_terms.specs.declared.term.Term.TheOpen.{Term-F}
use Rattle.plai_values.specs.declared.functor.Unary.{Unary}
use Rattle.plai_values.specs.declared.functor.Unary.TheVariants.{Minus, Complement, Absolute, Sign}
use Rattle.plai_values.specs.declared.functor.Binary.{Binary}
use Rattle.plai_values.specs.declared.functor.Binary.TheVariants.{Add, Subtract, Multiply, Quotient, Remainder, Modulo, Divide, And, Or, ShiftLeft, ShiftRight, Least, Greatest, Power}
use Rattle.plai_values.specs.declared.comparison.Comparison.{Comparison}
use Rattle.plai_values.specs.declared.comparison.Comparison.TheVariants.{Eq, Ne, Lt, Le, Gt, Ge}
use Rattle.plai_values.specs.Functors.{unary_named, binary_named}

-- the integer, where it is one of 128 bits
abbrev pub in_range : ℤ → Option ℤ
in_range n = if integer_fits n then Some n else None

-- by a divisor other than 0
abbrev pub divided : (ℤ → ℤ → ℤ) → ℤ → ℤ → Option ℤ
divided f x y = if int_eq y (pos 0) then None else in_range (f x y)

-- the quotient rounded down
abbrev pub floor_div : ℤ → ℤ → ℤ
floor_div x (pos n) = int_div_euclid x (pos n)
floor_div x (negsuc n) = int_div_euclid (neg_ℤ x) (pos (suc n))

-- what the quotient rounded down leaves: it has the divisor's sign (9.1.3.1)
abbrev pub modulo : ℤ → ℤ → ℤ
modulo x y = x -ℤ floor_div x y *ℤ y

-- the quotient of integers of which the second divides the first
abbrev pub exact_quotient : ℤ → ℤ → Option ℤ
exact_quotient x y = if int_eq (int_rem x y) (pos 0) then divided int_div x y else None

-- a number of bits to shift by, 0 to 127
abbrev pub shift_count : ℤ → Option ℕ
shift_count (pos k) = if nat_lt k 128 then Some k else None
shift_count (negsuc _) = None

abbrev pub shifted : (ℤ → ℕ → ℤ) → ℤ → ℤ → Option ℤ
shifted f x y = option_and_then (λ k. in_range (f x k)) (shift_count y)

-- the product with a power of two
abbrev pub times_power_of_two : ℤ → ℕ → ℤ
times_power_of_two x k = x *ℤ int_pow (pos 2) k

-- a power with an exponent of 0 or more; the exponent 0 gives 1
abbrev pub power : ℤ → ℤ → Option ℤ
power x (pos e) = in_range (int_pow x e)
power x (negsuc _) = None

-- The complement and what is bitwise are those of two's complement; a quotient is rounded towards zero and leaves a remainder
-- with the dividend's sign; a shift to the right rounds down.
abbrev pub unary_value : Unary → ℤ → Option ℤ
unary_value Minus x = in_range (neg_ℤ x)
unary_value Complement x = in_range (int_bit_not w128 x)
unary_value Absolute x = in_range (pos (unsigned_abs x))
unary_value Sign x = in_range (int_signum x)

abbrev pub binary_value : Binary → ℤ → ℤ → Option ℤ
binary_value Add x y = in_range (x +ℤ y)
binary_value Subtract x y = in_range (x -ℤ y)
binary_value Multiply x y = in_range (x *ℤ y)
binary_value Quotient x y = divided int_div x y
binary_value Remainder x y = divided int_rem x y
binary_value Modulo x y = divided modulo x y
binary_value Divide x y = exact_quotient x y
binary_value And x y = in_range (int_bit_and w128 x y)
binary_value Or x y = in_range (int_bit_or w128 x y)
binary_value ShiftLeft x y = shifted times_power_of_two x y
binary_value ShiftRight x y = shifted int_shr x y
binary_value Least x y = in_range (int_min x y)
binary_value Greatest x y = in_range (int_max x y)
binary_value Power x y = power x y

-- one level, whose arguments are values already
abbrev pub functor_value : List ℕ → List (Option ℤ) → Option ℤ
functor_value name (Some x ∷ []) = option_and_then (λ f. unary_value f x) (unary_named name)
functor_value name (Some x ∷ Some y ∷ []) = option_and_then (λ f. binary_value f x y) (binary_named name)
functor_value name _ = None

abbrev pub value_step : Term-F (Option ℤ) → Option ℤ
value_step (Term-F.Int n) = Some n
value_step (Term-F.Compound name values) = functor_value name values
value_step _ = None

-- the value of an expression, if it has one
abbrev pub value_of : Term → Option ℤ
value_of = fold-Term (Option ℤ) value_step

-- the comparison holds of what stands in this order
abbrev pub holds_of : Comparison → Ordering → Bool
holds_of Eq = is_eq
holds_of Ne = is_ne
holds_of Lt = is_lt
holds_of Le = is_le
holds_of Gt = is_gt
holds_of Ge = is_ge

-- the comparison holds of two values (8.7)
abbrev pub compares : Comparison → ℤ → ℤ → Bool
compares c x y = holds_of c (int_cmp x y)
