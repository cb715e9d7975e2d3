-- A table as the list of its rows: a name, an answer or none, live or dormant, an entry's or not.
use Rattle.std.specs.Prelude.{ℕ, zero, suc, Bool, true, false, List, [], ◌∷◌, map, count_by, Option, Some, None}
use Rattle.std.specs.List.{IsDistinct}
use Rattle.plai_domain.specs.declared.key.Key.{Key}

pub record TableRow (V : Type 0) : Type 0 where
  pub name : Key V
  pub answer : Option V
  pub live : Bool
  pub entry : Bool

-- what contracts see of a table: its rows, and how many more fit without more memory
pub record TableView (V : Type 0) : Type 0 where
  pub rows : List (TableRow V)
  pub spare : ℕ

module _ {V : Type 0} where
  -- the names of rows
  abbrev pub names_of : List (TableRow V) → List (Key V)
  names_of rows = map (λ r. r.name) rows

  -- no two rows have equal names
  abbrev pub HaveDistinctNames : (Key V → Key V → Bool) → List (TableRow V) → Type 0
  HaveDistinctNames same rows = IsDistinct same (names_of rows)

  -- a row as it is added
  abbrev pub new_row : Key V → TableRow V
  new_row name = record { name = name; answer = None; live = true; entry = false }

  -- a row with another answer or mark
  abbrev pub with_answer : V → TableRow V → TableRow V
  with_answer answer r = record { name = r.name; answer = Some answer; live = r.live; entry = r.entry }

  abbrev pub with_live : Bool → TableRow V → TableRow V
  with_live live r = record { name = r.name; answer = r.answer; live = live; entry = r.entry }

  abbrev pub with_entry : Bool → TableRow V → TableRow V
  with_entry entry r = record { name = r.name; answer = r.answer; live = r.live; entry = entry }

  -- the rows, with f at the row of this number
  abbrev pub row_changed : (TableRow V → TableRow V) → List (TableRow V) → ℕ → List (TableRow V)
  row_changed f [] i = []
  row_changed f (r ∷ rows) zero = f r ∷ rows
  row_changed f (r ∷ rows) (suc i) = r ∷ row_changed f rows i

  -- how many rows are live
  abbrev pub live_count : List (TableRow V) → ℕ
  live_count rows = count_by (λ r. r.live) rows
