-- An exponent that gives the same values of 128 bits, up to 129.
use Rattle.std.specs.Prelude.{ℕ, ◌+◌, ◌%◌, nat_lt, if◌then◌else◌}

abbrev pub small_exponent : ℕ → ℕ
small_exponent e = if nat_lt e 128 then e else 128 + e % 2
