-- A list of marks.
use Rattle.std.specs.Prelude.{ℕ, Bool, false, List}
use Rattle.std.specs.List.{slice_index_or}

-- the mark at a number, none past the end
abbrev pub flag_at : List Bool → ℕ → Bool
flag_at flags k = slice_index_or flags k false
