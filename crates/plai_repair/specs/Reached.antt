-- The rows that calls reach from those of the entries (Muthukumar and Hermenegildo 1992), in a table and its arcs. Rows are
-- numbered from 0, as in the table, and clauses from 1.
use Rattle.std.specs.Prelude.{◌≡◌, ◌↔◌, ℕ, ◌≤◌, ◌<◌, Bool, true, false, List, map, length, get_or, slice_get, Option, Some}
use Rattle.plai_theory.specs.Words.{HasSome, given}
use Rattle.plai_clauses.specs.Program.{ProgramView, clauses_of}
use Rattle.plai_arcs.specs.declared.arcs.Arcs.{Arcs}
use Rattle.plai_arcs.specs.Arcs.{is_call}
use Rattle.plai_table.specs.Rows.{TableRow, with_live}
use Rattle.plai_repair.specs.Removal.{Renumbers}

-- whether the row of this number is an entry's
abbrev pub entry_at : {V : Type 0} → List (TableRow V) → ℕ → Bool
entry_at rows n = given false (λ r. r.entry) (slice_get rows n)

-- an entry's row, or one that a clause of a reached row calls
pub data IsReached (entry : ℕ → Bool) (calls : ℕ → ℕ → ℕ → Bool) : ℕ → Type 0 where
  First : {n : ℕ} → entry n ≡ true → IsReached entry calls n
  Then : {n : ℕ} (m i : ℕ) → IsReached entry calls m → calls m i n ≡ true → IsReached entry calls n

-- a mark for each of so many rows, set exactly at the reached ones
pub record AreReached (entry : ℕ → Bool) (calls : ℕ → ℕ → ℕ → Bool) (size : ℕ) (marks : List Bool) : Type 0 where
  pub long : length marks ≡ size
  pub agree : (n : ℕ) → (get_or marks n false ≡ true) ↔ IsReached entry calls n

-- calls are those of clauses of rows, and rows are called
pub record AreCallsWithin {V : Type 0} (program : ProgramView) (rows : List (TableRow V)) (calls : ℕ → ℕ → ℕ → Bool) : Type 0 where
  pub callers : (n m j : ℕ) → calls n m j ≡ true → HasSome (λ (r : TableRow V). (1 ≤ m) × (m ≤ length (clauses_of program r.name.pred))) (slice_get rows n)
  pub called : (n m j : ℕ) → calls n m j ≡ true → j < length rows

-- The new rows are the reached ones, each once, under the number that it had, and live. Else names, answers and marks are the
-- old ones, and so are their dirty clauses and their calls.
pub record KeepsReached {V : Type 0} (rows : List (TableRow V)) (arcs : Arcs) (new : List (TableRow V)) (new_arcs : Arcs) : Type 0 where
  pub had : ℕ → Option ℕ
  pub renumbers : Renumbers had (map (with_live true) rows) arcs new new_arcs
  pub sound : (k j : ℕ) → had k ≡ Some j → IsReached (entry_at rows) (is_call arcs) j
  pub whole : (j : ℕ) → IsReached (entry_at rows) (is_call arcs) j → (k : ℕ) × (had k ≡ Some j)
  pub once : (k l j : ℕ) → had k ≡ Some j → had l ≡ Some j → k ≡ l
