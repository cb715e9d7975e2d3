-- The order of rows in a table: by module, name, arity, and the text of the call.
use Rattle.std.specs.Prelude.{◌≡◌, ℕ, List}
use Rattle.std.specs.declared.cmp.Ordering.{Ordering}
use Rattle.std.specs.declared.cmp.Ordering.TheVariants.{Less}
use Rattle.std.specs.Ordering.{ordering_then, nat_cmp}
use Rattle.std.specs.Cmp.Lexicographic.{slice_cmp}
use Rattle.plai_terms.specs.Pattern.{pattern_text}
use Rattle.plai_terms.specs.declared.pred_key.PredKey.{PredKey}
use Rattle.plai_terms.specs.declared.row_name.RowName.{RowName}

-- texts by their bytes, a prefix first
abbrev pub text_order : List ℕ → List ℕ → Ordering
text_order = slice_cmp nat_cmp

-- by module, name and arity
abbrev pub pred_order : PredKey → PredKey → Ordering
pred_order a b = ordering_then (text_order a.module b.module) (ordering_then (text_order a.name b.name) (nat_cmp a.arity b.arity))

-- by predicate and the text of the call
abbrev pub name_order : RowName → RowName → Ordering
name_order a b = ordering_then (pred_order a.pred b.pred) (text_order (pattern_text a.call) (pattern_text b.call))

-- the row with the first name stands before the row with the second
abbrev pub IsBefore : RowName → RowName → Type 0
IsBefore a b = name_order a b ≡ Less

-- names of one predicate whose calls have one text
abbrev pub HaveSameText : RowName → RowName → Type 0
HaveSameText a b = (a.pred ≡ b.pred) × (pattern_text a.call ≡ pattern_text b.call)
