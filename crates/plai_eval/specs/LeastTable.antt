-- The least table of a program under a domain: the rows that its entries reach, with the answers to which the stages
-- settle, in the order of a table.
use Rattle.std.specs.Prelude.{List, map, Option, Some, None}
use Rattle.plai_theory.specs.LeastTable.{Row, Order}
use Rattle.plai_theory.specs.LeastTable as theory
use Rattle.plai_terms.specs.declared.abs.Abs.{Abs}
use Rattle.plai_terms.specs.declared.abs.Abs.TheVariants.{Nothing}
use Rattle.plai_terms.specs.declared.plain_row.PlainRow.{PlainRow}
use Rattle.plai_terms.specs.RowOrder.{IsBefore}
use Rattle.plai_domain.specs.Plain.{PlainDomain}
use Rattle.plai_clauses.specs.Program.{ProgramView}
use Rattle.plai_eval.specs.Meaning.{row_name, as_domain, as_program}

-- a row's answer: `Nothing` stands for none
abbrev pub answer_in : Abs → Option Abs
answer_in Nothing = None
answer_in a = Some a

abbrev pub row_of : (p : PlainDomain) → PlainRow → Row (as_domain p)
row_of p row = record { name = record { pred = row.name.pred; call = row.name.call }; answer = answer_in row.answer }

-- the order of a table
abbrev pub before : (p : PlainDomain) → Order (as_domain p)
before p x y = IsBefore (row_name x) (row_name y)

-- these rows are the least table
abbrev pub IsLeastTable : PlainDomain → ProgramView → List PlainRow → Type 0
IsLeastTable p program rows = theory.IsLeastTable (as_domain p) (as_program p program) (before p) (map (row_of p) rows)
