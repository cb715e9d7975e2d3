-- Rows in the order of a table.
use Rattle.std.specs.Prelude.{All, List, [], ◌∷◌}
use Rattle.plai_terms.specs.declared.plain_row.PlainRow.{PlainRow}
use Rattle.plai_terms.specs.RowOrder.{IsBefore}

-- each row's name stands before those of the rows behind it
abbrev pub AreInOrder : List PlainRow → Type 0
AreInOrder [] = Unit {0}
AreInOrder (r ∷ rows) = All (λ q. IsBefore r.name q.name) rows × AreInOrder rows
