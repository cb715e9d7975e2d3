-- There is one least table: so the rows of the work are those behind the texts of its table.
use Rattle.std.proofs.Common.{◌≡◌, ◌∙◌, ℕ, List, ap, subst}
use Rattle.plai_terms.specs.declared.plain_row.PlainRow.{PlainRow}
use Rattle.plai_domain.specs.Plain.{PlainDomain}
use Rattle.plai_clauses.specs.Program.{ProgramView}
use Rattle.plai_assert.specs.Verdicts.{verdicts_of}
use Rattle.plai_eval.specs.LeastTable.{IsLeastTable}
use Rattle.plai_eval.proofs.One.{least_table_is_one}
use Rattle.plai_render.specs.declared.text_table.TextTable.{TextTable}
use Rattle.plai_render.specs.Texts.{AreTextsOf}
use Rattle.plai_analysis.specs.Table.{IsTextTable}
use Rattle.plai_analysis.specs.Output.{IsPlainTable}
use Rattle.plai_session.specs.Sessions.{AreRowsOf}

module _ (p : PlainDomain) (limit : ℕ) (program : ProgramView) (table : TextTable) (own : IsTextTable p program limit table) where
  pub rows_behind : (rows : List PlainRow) → IsPlainTable p program limit rows → AreRowsOf p limit program table rows
  rows_behind rows are =
      let one : own.rows ≡ rows = least_table_is_one p program own.rows rows own.least are.least in
      record {
        least = are.least;
        narrow = are.narrow;
        within = are.within;
        are_texts = subst (λ (l : List PlainRow). AreTextsOf l table.rows) one own.are_texts;
        are_verdicts = own.are_verdicts ∙ ap (λ (l : List PlainRow). verdicts_of p l program.checks) one;
      }

  pub verdicts_behind : (rows : List PlainRow) → IsLeastTable p program rows → table.verdicts ≡ verdicts_of p rows program.checks
  verdicts_behind rows least =
      own.are_verdicts ∙ ap (λ (l : List PlainRow). verdicts_of p l program.checks)
      (least_table_is_one p program own.rows rows own.least least)
