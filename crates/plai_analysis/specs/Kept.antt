-- What an analysis keeps: the least table of a program, in a table and its arcs (Hermenegildo, Puebla, Marriott and Stuckey
-- 2000).
use Rattle.std.specs.Prelude.{ℕ, ◌≤◌, List, length}
use Rattle.plai_theory.specs.LeastTable.{Row}
use Rattle.plai_terms.specs.declared.abs.Abs.{Abs}
use Rattle.plai_domain.specs.Plain.{PlainDomain}
use Rattle.plai_clauses.specs.Program.{ProgramView}
use Rattle.plai_eval.specs.Meaning.{as_domain}
use Rattle.plai_table.specs.Rows.{TableRow}
use Rattle.plai_arcs.specs.declared.arcs.Arcs.{Arcs}
use Rattle.plai_repair.specs.Opened.{IsWholeTable}

-- Table and arcs keep the least table, of at most as many rows as the limit says, and what its clauses call.
pub record IsKeptTable {V : Type 0} (value_of : V → Abs) (p : PlainDomain) (program : ProgramView) (limit : ℕ) (table : List (TableRow V)) (arcs : Arcs)
    : Type 0 where
  pub rows : List (Row (as_domain p))
  pub whole : IsWholeTable value_of p program rows table arcs
  pub within : length rows ≤ limit
