-- What a sort needs of rows, and what it gives where their names may have equal texts.
use Rattle.std.specs.Prelude.{◌≢◌, ◌≤◌, All, List, [], ◌∷◌, ⊤}
use Rattle.plai_terms.specs.declared.plain_row.PlainRow.{PlainRow}
use Rattle.plai_terms.specs.Pattern.{arity_of, IsGroundness}
use Rattle.plai_terms.specs.RowOrder.{IsBefore, HaveSameText}

-- no row's name stands before that of an earlier row
abbrev pub AreWeaklyInOrder : List PlainRow → Type 0
AreWeaklyInOrder [] = ⊤
AreWeaklyInOrder (row ∷ rows) = All (λ later. ¬ (IsBefore later.name row.name)) rows × AreWeaklyInOrder rows

-- no two rows have names of one predicate and calls of one text
abbrev pub AreApart : List PlainRow → Type 0
AreApart [] = ⊤
AreApart (row ∷ rows) = All (λ later. ¬ (HaveSameText row.name later.name)) rows × AreApart rows

-- the patterns of the row speak of at most 16 arguments
abbrev pub IsNarrow : PlainRow → Type 0
IsNarrow row = (arity_of row.name.call ≤ 16) × (arity_of row.answer ≤ 16)

-- no two rows have the same name
abbrev pub HaveDistinctNames : List PlainRow → Type 0
HaveDistinctNames [] = ⊤
HaveDistinctNames (row ∷ rows) = All (λ later. row.name ≢ later.name) rows × HaveDistinctNames rows

-- the call is a set of assignments to the arguments of the row's predicate
abbrev pub HasGroundnessCall : PlainRow → Type 0
HasGroundnessCall row = (row.name.pred.arity ≤ 16) × IsGroundness row.name.pred.arity row.name.call
