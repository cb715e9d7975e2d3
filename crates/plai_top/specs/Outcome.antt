-- The outcome of a call, which is its status and its output, from the words, the files and the script, where nothing
-- fails and there is memory. The words come first, then the number of files, the files, their loading, the script, its
-- tokens, and the analysis of the loaded program and of the program behind each edit. Its output has a block for each of
-- them: the least table of that program under the domain (Muthukumar and Hermenegildo 1992), the limit that its analysis
-- met, or why the edit is refused.
use Rattle.std.specs.Prelude.{ℕ, ◌≡◌, ◌⊎◌, ◌<◌, ◌≤◌, List, [], ◌∷◌, true, None, Some, Result, Ok, Err, length}
use Rattle.plai_base.specs.Texts.{TextMap}
use Rattle.plai_clauses.specs.Program.{ProgramView}
use Rattle.plai_clauses.specs.declared.edit_cause.EditCause.{EditCause}
use Rattle.plai_modules.specs.Loading.{Refusal}
use Rattle.plai_script.specs.Scripts.{ScriptRefusal, script_of}
use Rattle.plai_script.specs.declared.edit.Edit.{Edit}
use Rattle.plai_session.specs.Programs.{behind}
use Rattle.plai_words.specs.Command.{settings_of}
use Rattle.plai_words.specs.declared.types.Settings.{Settings}
use Rattle.plai_top.specs.Blocks.{Block, texts_from, status_of_blocks, AreBlocksOf, IsTextOfFirst, AreSameUpToStops}
use Rattle.plai_make.specs.Programs.{made_program, made_edits}
use Rattle.plai_top.specs.Commands.{most_files, is_over_files, IsCommand, IsMake}
use Rattle.plai_top.specs.Files.{IsSomeLong, name_at, HasProgram, HasRefusal}
use Rattle.plai_top.specs.Refusal.{refusal_text, script_refusal_text}
use Rattle.plai_top.specs.Tasks.{domain_of, form_of, task_of}
use Rattle.plai_top.specs.declared.form.Form.{Form}

-- a status and the bytes that are written with it
pub record Outcome : Type 0 where
  pub status : ℕ
  pub bytes : List ℕ

-- a status without output
abbrev pub silent : ℕ → Outcome
silent number = record { status = number; bytes = [] }

-- a line that refuses a file or the script
abbrev pub line : List ℕ → Outcome
line text = record { status = 3; bytes = text }

-- all was done, with these blocks
abbrev pub done : Form → List Block → Outcome
done form blocks = record { status = status_of_blocks blocks; bytes = texts_from form 0 blocks }

-- loading refused a term
abbrev pub refused_by : List (List ℕ) → Refusal → Outcome
refused_by names refusal = line (refusal_text (name_at names refusal.file) refusal.term refusal.cause)

-- the outcomes that the words alone decide
pub data IsByWords (words : List (List ℕ)) : Outcome → Type 0 where
  no_command : settings_of words ≡ None → IsByWords words (silent 2)
  too_many : (settings : Settings) → settings_of words ≡ Some settings → is_over_files settings ≡ true → most_files < length settings.files
      → IsByWords words (silent 4)

-- the outcomes that the words and the files decide, whatever the script is
pub data IsEarly (words : List (List ℕ)) (files : TextMap) : Outcome → Type 0 where
  by_words : (outcome : Outcome) → IsByWords words outcome → IsEarly words files outcome
  too_long : (settings : Settings) → IsCommand words settings → IsSomeLong files settings.files → IsEarly words files (silent 4)
  refused : (settings : Settings) (refusal : Refusal) → HasRefusal words files settings refusal → IsEarly words files (refused_by settings.files refusal)

-- the most bytes of a script: 16 mebibytes
abbrev pub longest_script : ℕ
longest_script = 16777216

-- the most reads of a script: each takes a byte, up to one more than it may have, or is the last
abbrev pub most_reads : ℕ
most_reads = 16777217

-- what the script alone decides, behind a loaded program
pub data IsByScript (script : List ℕ) : Outcome → Type 0 where
  script_too_long : longest_script < length script → IsByScript script (silent 4)
  script_refused : (refusal : ScriptRefusal) → length script ≤ longest_script → script_of script ≡ Err refusal
      → IsByScript script (line (script_refusal_text refusal))

-- the edits of a script
pub record HasEdits (script : List ℕ) (items : List (Result Edit EditCause)) : Type 0 where
  pub short : length script ≤ longest_script
  pub read : script_of script ≡ Ok items

-- the programs that are analysed, the loaded one first, each with the blocks that it may have
abbrev pub AreBlocks : Settings → ProgramView → List (Result Edit EditCause) → List Block → Type 0
AreBlocks settings program items = AreBlocksOf (domain_of (task_of settings)) settings.rows (Ok program ∷ behind program items)

-- what is analysed: the program of the files and the edits of the script, or a made program and its edits
pub data IsAsked (words : List (List ℕ)) (files : TextMap) (script : List ℕ) (settings : Settings) : ProgramView → List (Result Edit EditCause) → Type 0 where
  by_files : (program : ProgramView) (items : List (Result Edit EditCause)) → HasProgram words files settings program → HasEdits script items
      → IsAsked words files script settings program items
  by_make : (count : ℕ) → IsMake words settings count → IsAsked words files script settings (made_program count) (made_edits count)

-- the outcomes of a call
pub data IsOutcome (words : List (List ℕ)) (files : TextMap) (script : List ℕ) : Outcome → Type 0 where
  early : (outcome : Outcome) → IsEarly words files outcome → IsOutcome words files script outcome
  by_script : (settings : Settings) (program : ProgramView) (outcome : Outcome) → HasProgram words files settings program
      → IsByScript script outcome → IsOutcome words files script outcome
  blocks : (settings : Settings) (program : ProgramView) (items : List (Result Edit EditCause)) (blocks : List Block)
      → IsAsked words files script settings program items → AreBlocks settings program items blocks
      → IsOutcome words files script (done (form_of settings) blocks)

-- nothing, or the text of blocks of the first of what is analysed, whether or not the others have blocks
pub data AreFirstBlocks (words : List (List ℕ)) (files : TextMap) (script : List ℕ) : List ℕ → Type 0 where
  none_yet : AreFirstBlocks words files script []
  first_ones : (settings : Settings) (program : ProgramView) (items : List (Result Edit EditCause)) (text : List ℕ)
      → IsAsked words files script settings program items
      → IsTextOfFirst (form_of settings) (domain_of (task_of settings)) settings.rows (Ok program ∷ behind program items) text
      → AreFirstBlocks words files script text

-- the outcomes of a made program, which depend on no file and no script
abbrev pub IsMadeOutcome : Settings → ℕ → Outcome → Type 0
IsMadeOutcome settings count outcome =
    (blocks : List Block) × AreBlocks settings (made_program count) (made_edits count) blocks × (outcome ≡ done (form_of settings) blocks)

-- outcomes of the analysis that the words ask for, whose blocks are the same but for stops
pub record DifferInStops (words : List (List ℕ)) (first second : Outcome) : Type 0 where
  pub settings : Settings
  pub formed : settings_of words ≡ Some settings
  pub first_blocks : List Block
  pub second_blocks : List Block
  pub is_first : first ≡ done (form_of settings) first_blocks
  pub is_second : second ≡ done (form_of settings) second_blocks
  pub same : AreSameUpToStops settings.rows first_blocks second_blocks

-- the same outcome, but that a stop may stand in the place of a table or of the other stop
abbrev pub AreOne : List (List ℕ) → Outcome → Outcome → Type 0
AreOne words first second = (first ≡ second) ⊎ DifferInStops words first second

-- a call has one outcome, but that a stop may come beside a table or the other stop, where names that are not in the table
-- were met on the way
abbrev pub OutcomeIsOne : Type 0
OutcomeIsOne = (words : List (List ℕ)) (files : TextMap) (script : List ℕ) (first second : Outcome)
    → IsOutcome words files script first → IsOutcome words files script second → AreOne words first second
