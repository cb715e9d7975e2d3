-- What an analysis gives: the least table of a program as text (Muthukumar and Hermenegildo 1992), and its verdicts.
use Rattle.std.specs.Prelude.{◌≡◌, ℕ, ◌≤◌, All, List, length}
use Rattle.plai_terms.specs.declared.plain_row.PlainRow.{PlainRow}
use Rattle.plai_domain.specs.Plain.{PlainDomain}
use Rattle.plai_clauses.specs.Program.{ProgramView}
use Rattle.plai_assert.specs.Verdicts.{verdicts_of}
use Rattle.plai_eval.specs.LeastTable.{IsLeastTable}
use Rattle.plai_render.specs.declared.text_table.TextTable.{TextTable}
use Rattle.plai_render.specs.Order.{IsNarrow}
use Rattle.plai_render.specs.Texts.{AreTextsOf}

-- the texts of the rows of the least table, which has at most as many rows as the limit says, and what the rows say of the
-- program's assertions
pub record IsTextTable (p : PlainDomain) (program : ProgramView) (limit : ℕ) (table : TextTable) : Type 0 where
  pub rows : List PlainRow
  pub least : IsLeastTable p program rows
  pub narrow : All IsNarrow rows
  pub within : length rows ≤ limit
  pub are_texts : AreTextsOf rows table.rows
  pub are_verdicts : table.verdicts ≡ verdicts_of p rows program.checks
