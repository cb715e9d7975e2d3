-- The text of an analysis that met a limit: a block with one line that names the limit.
use Rattle.std.specs.Prelude.{ℕ, List, [], ◌∷◌, ◌++◌, Option, Some, None, decimal, codes}

-- the limit: so many rows, or else the groups of a set
abbrev pub limit_text : Option ℕ → List ℕ
limit_text (Some rows) = codes "rows " ++ decimal rows
limit_text None = codes "groups 65536"

-- the line `edit K`, the line `stopped rows R` or `stopped groups 65536`, and the line `end`
abbrev pub stopped_text : ℕ → Option ℕ → List ℕ
stopped_text number rows = codes "edit " ++ decimal number ++ 10 ∷ [] ++ codes "stopped " ++ limit_text rows ++ 10 ∷ [] ++ codes "end" ++ 10 ∷ []
