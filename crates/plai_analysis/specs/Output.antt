-- Rows that a table keeps as rows of patterns (Muthukumar and Hermenegildo 1992).
use Rattle.std.specs.Prelude.{◌≡◌, ℕ, ◌≤◌, All, List, length, slice_get, Some, unwrap_or}
use Rattle.std.specs.Option.{option_map}
use Rattle.plai_terms.specs.declared.abs.Abs.{Abs}
use Rattle.plai_terms.specs.declared.abs.Abs.TheVariants.{Nothing}
use Rattle.plai_terms.specs.declared.plain_row.PlainRow.{PlainRow}
use Rattle.plai_domain.specs.Names.{name_of}
use Rattle.plai_domain.specs.Plain.{PlainDomain}
use Rattle.plai_domain.specs.Conditions.{most_arguments, IsValue}
use Rattle.plai_clauses.specs.Program.{ProgramView}
use Rattle.plai_assert.specs.declared.row.Row.{Row}
use Rattle.plai_assert.specs.Rows.{IsFit}
use Rattle.plai_eval.specs.LeastTable.{IsLeastTable}
use Rattle.plai_render.specs.Order.{IsNarrow}
use Rattle.plai_table.specs.Rows.{TableRow}

-- `Nothing` stands for no answer
abbrev pub plain_row : {V : Type 0} → (V → Abs) → TableRow V → PlainRow
plain_row value_of r = record { name = name_of value_of r.name; answer = unwrap_or (option_map value_of r.answer) Nothing }

-- a row that can be shown: its call and its answer are values of as many arguments as its predicate has, which are few
pub record IsFitRow {V : Type 0} (value_of : V → Abs) (p : PlainDomain) (r : TableRow V) : Type 0 where
  pub few : r.name.pred.arity ≤ most_arguments
  pub call : IsValue p r.name.pred.arity (value_of r.name.call)
  pub answer : (a : V) → r.answer ≡ Some a → IsValue p r.name.pred.arity (value_of a)

abbrev pub AreFit : {V : Type 0} → (V → Abs) → PlainDomain → List (TableRow V) → Type 0
AreFit {V} value_of p rows = (n : ℕ) (r : TableRow V) → slice_get rows n ≡ Some r → IsFitRow value_of p r

-- the same of a row that is read
abbrev pub IsShown : {V : Type 0} → (V → Abs) → PlainDomain → Row V → Type 0
IsShown value_of p row = (row.name.now.pred.arity ≤ most_arguments) × IsFit value_of p row

-- the rows of the least table, in order, at most as many as the limit says
pub record IsPlainTable (p : PlainDomain) (program : ProgramView) (limit : ℕ) (rows : List PlainRow) : Type 0 where
  pub least : IsLeastTable p program rows
  pub narrow : All IsNarrow rows
  pub within : length rows ≤ limit
