-- The dirty clauses of rows.
use Rattle.std.specs.Prelude.{ℕ, ◌<◌, Bool, false, List, vec_len}
use Rattle.plai_arcs.specs.declared.dirty_row.DirtyRow.{DirtyRow}
use Rattle.plai_arcs.specs.Flags.{flag_at}
use Rattle.plai_arcs.specs.Places.{at}

-- whether a clause of a row is dirty
abbrev pub dirty_at : List DirtyRow → ℕ → ℕ → Bool
dirty_at rows r c = at (λ d. flag_at d.flags.items c) false rows r

-- there is a place for its mark
abbrev pub HasPlace : List DirtyRow → ℕ → ℕ → Type 0
HasPlace rows r c = c < at (λ d. vec_len d.flags) 0 rows r
