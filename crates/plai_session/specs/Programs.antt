-- The programs behind the edits of a script: one after the other, each from the program behind those before it.
use Rattle.std.specs.Prelude.{List, [], ◌∷◌, Result, Ok, Err}
use Rattle.plai_clauses.specs.Program.{ProgramView}
use Rattle.plai_clauses.specs.declared.edit_cause.EditCause.{EditCause}
use Rattle.plai_script.specs.Edits.{edited}
use Rattle.plai_script.specs.declared.edit.Edit.{Edit}

-- what an item of a script makes of a program: the program behind it, or why it is refused
abbrev pub judged : ProgramView → Result Edit EditCause → Result ProgramView EditCause
judged program (Ok edit) = edited program edit
judged program (Err cause) = Err cause

-- the program behind it: a refused item leaves the program as it was
abbrev pub kept : ProgramView → Result ProgramView EditCause → ProgramView
kept program (Ok changed) = changed
kept program (Err cause) = program

-- what each item makes of the program behind those before it
abbrev pub behind : ProgramView → List (Result Edit EditCause) → List (Result ProgramView EditCause)
behind program [] = []
behind program (item ∷ items) = judged program item ∷ behind (kept program (judged program item)) items
