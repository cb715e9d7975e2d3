-- Rows under new numbers.
use Rattle.std.specs.Prelude.{ℕ, Bool, false, cond, nat_eq, Option, None, Some}

-- the row, by its number before, that has this number after a row is removed and another, where one is moved, takes its number
abbrev pub was : ℕ → Option ℕ → ℕ → Option ℕ
was row None r = cond (nat_eq r row) None (Some r)
was row (Some moved) r = cond (nat_eq r row) (Some moved) (cond (nat_eq r moved) None (Some r))

-- a test of a row by its number before, false where there is none
abbrev pub of_row : Option ℕ → (ℕ → Bool) → Bool
of_row None t = false
of_row (Some r) t = t r

-- two rows' numbers swapped
abbrev pub swapped : ℕ → ℕ → ℕ → ℕ
swapped a b r = cond (nat_eq r a) b (cond (nat_eq r b) a r)
