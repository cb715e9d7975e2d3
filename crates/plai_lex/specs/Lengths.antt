-- What is found at the beginning of a text has at least one byte, and no more than the text.
use Rattle.std.specs.Prelude.{ℕ, ◌≤◌, Option, None, Some}
use Rattle.plai_lex.specs.declared.quoted.Character.{Character}
use Rattle.plai_lex.specs.declared.quoted.Item.{Item}
use Rattle.plai_lex.specs.declared.quoted.Item.TheVariants.{Close, Continuation, Code, Unclosed, Refused}
use Rattle.plai_lex.specs.declared.quoted.Body.{Body}
use Rattle.plai_lex.specs.declared.quoted.Body.TheVariants.{Closed, Broken}
use Rattle.plai_lex.specs.declared.piece.Piece.{Piece}
use Rattle.plai_lex.specs.declared.piece.Piece.TheVariants.{Nothing, Gap, Found, Failed}

abbrev pub FitsCharacter : ℕ → Option Character → Type 0
FitsCharacter size None = Unit {0}
FitsCharacter size (Some c) = (1 ≤ c.len) × (c.len ≤ size)

abbrev pub FitsItem : ℕ → Item → Type 0
FitsItem size Close = 1 ≤ size
FitsItem size Continuation = 2 ≤ size
FitsItem size (Code c) = (1 ≤ c.len) × (c.len ≤ size)
FitsItem size Unclosed = Unit {0}
FitsItem size (Refused cause) = 1 ≤ size

abbrev pub FitsBody : ℕ → Body → Type 0
FitsBody size (Closed codes len) = (1 ≤ len) × (len ≤ size)
FitsBody size (Broken cause at) = at ≤ size

abbrev pub FitsPiece : ℕ → Piece → Type 0
FitsPiece size Nothing = Unit {0}
FitsPiece size (Gap len) = (1 ≤ len) × (len ≤ size)
FitsPiece size (Found kind len) = (1 ≤ len) × (len ≤ size)
FitsPiece size (Failed cause at) = at ≤ size
