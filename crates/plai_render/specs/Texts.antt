-- Rows of a table as text: the predicate, and the texts of the patterns of its calls and of its answers.
use Rattle.std.specs.Prelude.{◌≡◌, List, map}
use Rattle.std.specs.List.Sorted.{IsPermutation}
use Rattle.std.specs.declared.cmp.Ordering.{Ordering}
use Rattle.std.specs.Ordering.{ordering_then}
use Rattle.plai_terms.specs.declared.plain_row.PlainRow.{PlainRow}
use Rattle.plai_terms.specs.Pattern.{pattern_text}
use Rattle.plai_terms.specs.RowOrder.{text_order, pred_order}
use Rattle.plai_terms.specs.Rows.{AreInOrder}
use Rattle.plai_render.specs.declared.text_row.TextRow.{TextRow}
use Rattle.plai_render.specs.Order.{AreWeaklyInOrder, AreApart}

-- the row as text
abbrev pub text_of : PlainRow → TextRow
text_of row = record { pred = row.name.pred; call = pattern_text row.name.call; answer = pattern_text row.answer }

-- these are the texts of the rows, one by one
abbrev pub AreTextsOf : List PlainRow → List TextRow → Type 0
AreTextsOf rows texts = map text_of rows ≡ texts

-- by predicate and the text of the call, which is the order of the rows' names
abbrev pub text_row_order : TextRow → TextRow → Ordering
text_row_order a b = ordering_then (pred_order a.pred b.pred) (text_order a.call b.call)

-- These are the texts of the rows of the table, put into the order of a table.
pub record AreTextsInOrder (table : List PlainRow) (texts : List TextRow) : Type 0 where
  pub rows : List PlainRow
  pub permutation : IsPermutation table rows
  pub sorted : AreWeaklyInOrder rows
  pub in_order : AreApart table → AreInOrder rows
  pub are_texts : AreTextsOf rows texts
