-- The texts of a command's files, and the program that they are loaded to.
use Rattle.std.specs.Prelude.{◌≡◌, ◌≤◌, ◌<◌, ◌-◌, ℕ, List, [], All, Any, Ok, Err, map, length, unwrap_or, slice_get}
use Rattle.plai_base.specs.Texts.{TextMap, text_of, longest_text}
use Rattle.plai_words.specs.declared.types.Settings.{Settings}
use Rattle.plai_clauses.specs.Program.{ProgramView}
use Rattle.plai_modules.specs.Loading.{Refusal, loaded}
use Rattle.plai_top.specs.Commands.{IsCommand}

-- the texts of these names, in order
abbrev pub texts_of : TextMap → List (List ℕ) → List (List ℕ)
texts_of files names = map (text_of files) names

-- no file is too long
abbrev pub AreShort : TextMap → List (List ℕ) → Type 0
AreShort files names = All (λ name. length (text_of files name) ≤ longest_text) names

-- some file is too long
abbrev pub IsSomeLong : TextMap → List (List ℕ) → Type 0
IsSomeLong files names = Any (λ name. longest_text < length (text_of files name)) names

-- the name of the file of this number, from 1
abbrev pub name_at : List (List ℕ) → ℕ → List ℕ
name_at names number = unwrap_or (slice_get names (number - 1)) []

-- the words form a command, whose files aren't too long
pub record HasFiles (words : List (List ℕ)) (files : TextMap) (settings : Settings) : Type 0 where
  pub command : IsCommand words settings
  pub short : AreShort files settings.files

-- and its files are loaded to this program
pub record HasProgram (words : List (List ℕ)) (files : TextMap) (settings : Settings) (program : ProgramView) : Type 0 where
  pub given : HasFiles words files settings
  pub loads : loaded (texts_of files settings.files) ≡ Ok program

-- or they are refused
pub record HasRefusal (words : List (List ℕ)) (files : TextMap) (settings : Settings) (refusal : Refusal) : Type 0 where
  pub given : HasFiles words files settings
  pub loads : loaded (texts_of files settings.files) ≡ Err refusal
