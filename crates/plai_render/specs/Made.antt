-- The lines of a made program's run: one for each edit, with the number of the rows of the table and of those whose answer is
-- `none`.
use Rattle.std.specs.Prelude.{ℕ, Bool, nat_eq, List, [], ◌∷◌, ◌++◌, Option, Some, None, filter, length, decimal, codes}
use Rattle.std.specs.Cmp.Lexicographic.{pointwise}
use Rattle.plai_clauses.specs.declared.edit_cause.EditCause.{EditCause}
use Rattle.plai_render.specs.Refused.{edit_cause_text}
use Rattle.plai_render.specs.declared.text_row.TextRow.{TextRow}

-- the answer of the row is `none`
abbrev pub has_no_answer : TextRow → Bool
has_no_answer row = pointwise nat_eq row.answer (codes "none")

-- `made K`, and what is said of the edit of that number
abbrev pub made_text : ℕ → List ℕ → List ℕ
made_text number said = codes "made " ++ decimal number ++ said ++ 10 ∷ []

-- so many rows, and so many without an answer
abbrev pub numbers_text : ℕ → ℕ → List ℕ
numbers_text rows none = codes " rows " ++ decimal rows ++ codes " none " ++ decimal none

-- `made K rows R none B`
abbrev pub counts_text : ℕ → List TextRow → List ℕ
counts_text number rows = made_text number (numbers_text (length rows) (length (filter has_no_answer rows)))

-- the limit: so many rows, or else the groups of a set
abbrev pub limit_said : Option ℕ → List ℕ
limit_said (Some rows) = codes " stopped rows " ++ decimal rows
limit_said None = codes " stopped groups"

-- `made K stopped rows R` or `made K stopped groups`
abbrev pub made_stopped_text : ℕ → Option ℕ → List ℕ
made_stopped_text number rows = made_text number (limit_said rows)

-- `made K refused CAUSE`
abbrev pub made_refused_text : ℕ → EditCause → List ℕ
made_refused_text number cause = made_text number (codes " refused " ++ edit_cause_text cause)
