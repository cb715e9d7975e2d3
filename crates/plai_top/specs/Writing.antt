-- What was written of the blocks of a call, and how far.
use Rattle.std.specs.Prelude.{◌≡◌, ◌≢◌, ◌⊎◌, ℕ, Bool, true, false, List, [], ◌++◌, length, take, None, Result, Ok, Err, All, IfOk}
use Rattle.std.specs.List.{list_all}
use Rattle.std.specs.Io.KnownBytes.{Appends, Keeps}
use Rattle.std.specs.declared.option.Option.{Option}
use Rattle.plai_domain.specs.Plain.{PlainDomain}
use Rattle.plai_clauses.specs.Program.{ProgramView}
use Rattle.plai_clauses.specs.WellFormed.{IsWellFormed}
use Rattle.plai_clauses.specs.declared.edit_cause.EditCause.{EditCause}
use Rattle.plai_render.specs.declared.text_table.TextTable.{TextTable}
use Rattle.plai_session.specs.Sessions.{IsAnalysed}
use Rattle.plai_session.specs.Work.{IsWorkOf}
use Rattle.plai_session.specs.declared.answer.EditAnswer.{EditAnswer}
use Rattle.plai_session.specs.declared.answer.EditAnswer.TheVariants as answer
use Rattle.plai_top.specs.Blocks.{Block, refused, text_of, is_table, texts_from, status_of_blocks, IsBlockOf, AreBlocksOf, IsTextOfFirst}
use Rattle.plai_top.specs.Working.{Span, IsIdle, kept_behind_all, IsWorked, AreWorked, IsLastWorked}
use Rattle.plai_top.specs.declared.form.Form.{Form}
use Rattle.plai_top.specs.declared.stop.Stop.{Stop}
use Rattle.plai_top.specs.declared.stop.Stop.TheVariants.{WriteFault, Memory}

-- the text was written, or a write failed behind a prefix of it
abbrev pub WritesText : Option (List ℕ) → Option (List ℕ) → List ℕ → Result (Unit {0}) Stop → Type 0
WritesText before after text (Ok _) = Appends before after text
WritesText before after text (Err stop) = (stop ≡ WriteFault) × ((n : ℕ) × Appends before after (take n text))

-- an answer for a program, which is the session's own, or for why there is none, with the table of the session and the work from
-- the table that was kept
abbrev pub IsAnswerFor : PlainDomain → ℕ → Option ProgramView → ℕ → ProgramView → Option TextTable → EditAnswer → Span → Result ProgramView EditCause → Type 0
IsAnswerFor p limit was number own table given span (Ok program) =
    (own ≡ program) × IsAnalysed p limit program table given × IsWorkOf p limit was program number span.before span.after span.steps given
IsAnswerFor p limit was number own table given span (Err cause) = (given ≡ answer.Refused cause) × IsIdle span

-- a block of it, with its work, which shows a table or doesn't
pub record HasBlock (p : PlainDomain) (limit : ℕ) (was : Option ProgramView) (number : ℕ) (given : Result ProgramView EditCause) (span : Span) (shows_table : Bool) : Type 0 where
  pub block : Block
  pub is_block : IsBlockOf p limit given block
  pub worked : IsWorked p limit was number given block span
  pub shows : is_table block ≡ shows_table

-- the text of such a block
pub record IsBlockText (form : Form) (p : PlainDomain) (limit : ℕ) (was : Option ProgramView) (number : ℕ) (given : Result ProgramView EditCause)
    (span : Span) (text : List ℕ) (shows_table : Bool) : Type 0 where
  pub own : HasBlock p limit was number given span shows_table
  pub is_text : text ≡ text_of form number own.block

-- A block of it was written, all of it, and its work was done; or a write failed behind a prefix of the block; or memory was
-- wanting before, in the work or behind it.
abbrev pub WritesBlock : Form → PlainDomain → ℕ → Option ProgramView → ℕ → Result ProgramView EditCause → Span → Option (List ℕ) → Option (List ℕ)
    → Result Bool Stop → Type 0
WritesBlock form p limit was number given span before after (Ok shows_table) =
    (text : List ℕ) × IsBlockText form p limit was number given span text shows_table × Appends before after text
WritesBlock form p limit was number given span before after (Err stop) =
    ((stop ≡ Memory) × Keeps before after × IsLastWorked form p limit was number given span [])
    ⊎ ((stop ≡ WriteFault) × ((text : List ℕ) × (shows_table : Bool) × IsBlockText form p limit was number given span text shows_table
    × ((n : ℕ) × Appends before after (take n text))))

-- the programs are well formed
abbrev pub AreFormed : List (Result ProgramView EditCause) → Type 0
AreFormed givens = All (λ given. IfOk given IsWellFormed) givens

-- Before now blocks of the first of these were written, numbered from 0, and none of those that are left; the program whose table
-- is kept behind them; whether each of them shows a table; and the work was theirs.
pub record Wrote (form : Form) (p : PlainDomain) (limit : ℕ) (givens : List (Result ProgramView EditCause)) (before now : Option (List ℕ)) (span : Span)
    (left : List (Result ProgramView EditCause)) (was : Option ProgramView) (number : ℕ) (are_tables : Bool) : Type 0 where
  pub earlier : List (Result ProgramView EditCause)
  pub written : List Block
  pub parts : givens ≡ earlier ++ left
  pub are : AreBlocksOf p limit earlier written
  pub bytes : Appends before now (texts_from form 0 written)
  pub formed : AreFormed earlier
  pub count : length written ≡ number
  pub tables : are_tables ≡ list_all is_table written
  pub worked : AreWorked p limit None 0 earlier written span
  pub keeps : kept_behind_all None earlier written ≡ was

-- blocks of these were written, all of them, with this status
pub record AreWritten (form : Form) (p : PlainDomain) (limit : ℕ) (givens : List (Result ProgramView EditCause)) (before after : Option (List ℕ))
    (status : ℕ) : Type 0 where
  pub blocks : List Block
  pub are : AreBlocksOf p limit givens blocks
  pub formed : AreFormed givens
  pub is_status : status ≡ status_of_blocks blocks
  pub bytes : Appends before after (texts_from form 0 blocks)

-- the text was written, and memory was wanting behind it; or it has bytes, and a write failed behind a prefix of it
abbrev pub WritesPart : Option (List ℕ) → Option (List ℕ) → List ℕ → Stop → Type 0
WritesPart before after text stop =
    ((stop ≡ Memory) × Appends before after text)
    ⊎ ((stop ≡ WriteFault) × (text ≢ []) × ((n : ℕ) × Appends before after (take n text)))

-- Blocks of these were written, all of them; or those of the first of them, and the last of these may be cut off.
abbrev pub WritesBlocks : Form → PlainDomain → ℕ → List (Result ProgramView EditCause) → Option (List ℕ) → Option (List ℕ) → Result ℕ Stop → Type 0
WritesBlocks form p limit givens before after (Ok status) = AreWritten form p limit givens before after status
WritesBlocks form p limit givens before after (Err stop) = (text : List ℕ) × IsTextOfFirst form p limit givens text × WritesPart before after text stop

-- whether the block of an answer shows a table
abbrev pub shows_table : EditAnswer → Bool
shows_table answer.Table = true
shows_table _ = false

-- the block of a term that is no edit was written
abbrev pub WritesRefused : Form → ℕ → EditCause → Option (List ℕ) → Option (List ℕ) → Result Bool Stop → Type 0
WritesRefused form number cause before after (Ok shows) = (shows ≡ false) × Appends before after (text_of form number (refused cause))
WritesRefused form number cause before after (Err stop) =
    ((stop ≡ Memory) × Keeps before after)
    ⊎ ((stop ≡ WriteFault) × ((n : ℕ) × Appends before after (take n (text_of form number (refused cause)))))
