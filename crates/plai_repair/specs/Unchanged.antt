-- An edit that leaves the entries, and the clauses of each row's predicate (Hermenegildo, Puebla, Marriott and Stuckey 2000).
-- Rows are numbered from 0.
use Rattle.std.specs.Prelude.{◌≡◌, ℕ, List, slice_get, Some}
use Rattle.plai_clauses.specs.Program.{ProgramView, clauses_of, entries_of}
use Rattle.plai_table.specs.Rows.{TableRow}

-- the predicate of the row of this number has the clauses that it had
abbrev pub StaysAt : {V : Type 0} → ProgramView → ProgramView → List (TableRow V) → ℕ → Type 0
StaysAt {V} before after rows n = (r : TableRow V) → slice_get rows n ≡ Some r → clauses_of after r.name.pred ≡ clauses_of before r.name.pred

-- the entries are those that were, and so are the clauses of each row's predicate
pub record AreUnchanged {V : Type 0} (before after : ProgramView) (rows : List (TableRow V)) : Type 0 where
  pub entries : entries_of after ≡ entries_of before
  pub clauses : (n : ℕ) → StaysAt before after rows n
