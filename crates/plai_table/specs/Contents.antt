-- The rows that the entries of a map stand for.
use Rattle.std.specs.Prelude.{List, map}
use Rattle.indexmap.specs.IndexMap.{IndexMap, spare}
use Rattle.plai_domain.specs.declared.key.Key.{Key}
use Rattle.plai_table.specs.declared.contents.Contents.{Contents}
use Rattle.plai_table.specs.Rows.{TableRow, TableView}

module _ {V : Type 0} where
  abbrev pub row_of : Key V × Contents V → TableRow V
  row_of e = record { name = e.0; answer = e.1.answer; live = e.1.live; entry = e.1.entry }

  abbrev pub rows_in : List (Key V × Contents V) → List (TableRow V)
  rows_in entries = map row_of entries

  abbrev pub view_of : {S : Type 0} → IndexMap (Key V) (Contents V) S → TableView V
  view_of m = record { rows = rows_in m.entries; spare = spare m }
