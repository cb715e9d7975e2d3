-- What a script says of a call: its edits, or what it is refused for.
use Rattle.std.specs.Prelude.{◌≢◌, ℕ, All, IfOk, List, [], Result}
use Rattle.plai_clauses.specs.declared.edit_cause.EditCause.{EditCause}
use Rattle.plai_script.specs.Readable.{IsReadableEdit}
use Rattle.plai_script.specs.declared.edit.Edit.{Edit}
use Rattle.plai_top.specs.Outcome.{IsByScript, HasEdits, line}
use Rattle.plai_top.specs.declared.script.Script.{Script}
use Rattle.plai_top.specs.declared.script.Script.TheVariants.{Edits, Refused}

-- the text makes this: the edits of a script, or the line of its refusal
abbrev pub IsScriptOf : List ℕ → Script → Type 0
IsScriptOf text (Edits items) = HasEdits text items.items
IsScriptOf text (Refused bytes) = IsByScript text (line bytes.items)

-- the terms of the edits are as they were read
abbrev pub AreReadable : List (Result Edit EditCause) → Type 0
AreReadable items = All (λ item. IfOk item IsReadableEdit) items

-- what is carried out has edits of terms as they were read
abbrev pub HasReadableEdits : Script → Type 0
HasReadableEdits (Edits items) = AreReadable items.items
HasReadableEdits (Refused bytes) = Unit {0}

-- the line of a refusal has bytes
abbrev pub HasScriptLine : Script → Type 0
HasScriptLine (Edits items) = Unit {0}
HasScriptLine (Refused bytes) = bytes.items ≢ []
