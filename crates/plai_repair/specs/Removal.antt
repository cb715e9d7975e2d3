-- Rows that are removed from a table and its arcs, where the last row takes the number of each that goes.
use Rattle.std.specs.Prelude.{◌≡◌, ◌⊎◌, ℕ, ◌<◌, ◌≤◌, Bool, false, List, length, get_or, slice_get, Option, None, Some, IfSome}
use Rattle.plai_theory.specs.Words.{given}
use Rattle.plai_arcs.specs.declared.arcs.Arcs.{Arcs}
use Rattle.plai_arcs.specs.Arcs.{is_dirty, is_call}
use Rattle.plai_arcs.specs.Moves.{was, of_row}
use Rattle.plai_table.specs.Rows.{TableRow}

-- The new rows are old ones, with the numbers that they had: their names, answers and marks are the old ones, and so are their
-- dirty clauses and their calls.
pub record Renumbers {V : Type 0} (had : ℕ → Option ℕ) (rows : List (TableRow V)) (arcs : Arcs) (new : List (TableRow V)) (new_arcs : Arcs) : Type 0 where
  pub items : (k : ℕ) → slice_get new k ≡ given None (slice_get rows) (had k)
  pub dirty : (r c : ℕ) → is_dirty new_arcs r c ≡ of_row (had r) (λ b. is_dirty arcs b c)
  pub calls : (r c q : ℕ) → is_call new_arcs r c q ≡ of_row (had r) (λ b. of_row (had q) (λ d. is_call arcs b c d))

-- One row is gone, and the last one has its number.
pub record IsTaken {V : Type 0} (row : ℕ) (rows : List (TableRow V)) (arcs : Arcs) (new : List (TableRow V)) (new_arcs : Arcs) : Type 0 where
  pub moved : Option ℕ
  pub greater : IfSome moved (λ last. row < last)
  pub renumbers : Renumbers (was row moved) rows arcs new new_arcs

-- Of the rows from the number on the unmarked ones are there, and all below, each once and under the number that it had.
pub record Removes {V : Type 0} (marks : List Bool) (from : ℕ) (rows : List (TableRow V)) (arcs : Arcs) (new : List (TableRow V)) (new_arcs : Arcs)
    : Type 0 where
  pub had : ℕ → Option ℕ
  pub renumbers : Renumbers had rows arcs new new_arcs
  pub below : (k : ℕ) → k < from → had k ≡ Some k
  pub kept : (k j : ℕ) → had k ≡ Some j → from ≤ j → get_or marks j false ≡ false
  pub within : (k j : ℕ) → had k ≡ Some j → j < length rows
  pub whole : (j : ℕ) → j < length rows → (j < from) ⊎ (get_or marks j false ≡ false) → (k : ℕ) × (had k ≡ Some j)
  pub once : (k l j : ℕ) → had k ≡ Some j → had l ≡ Some j → k ≡ l
