-- A linear congruential generator (Knuth, The Art of Computer Programming, volume 2, 3.2.1).
use Rattle.std.specs.Prelude.{ℕ, zero, suc, ◌+◌, ◌*◌, ◌/◌, ◌%◌}

abbrev pub following : ℕ → ℕ
following x = (x * 1103515245 + 12345) % 2147483648

-- the state behind so many draws, where the first state is the seed
unfoldable pub state_at : ℕ → ℕ → ℕ
state_at seed zero = seed
state_at seed (suc i) = following (state_at seed i)

-- the number below the count that a state gives, by its upper bits
abbrev pub chosen : ℕ → ℕ → ℕ
chosen state count = state / 65536 % count

-- the number that the i-th draw gives, where the seed is the count
abbrev pub draw : ℕ → ℕ → ℕ
draw count i = chosen (state_at count i) count
