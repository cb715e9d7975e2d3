-- The work behind the blocks of a call, as it is told: for the block of a program a mark with the block's number, and behind it a
-- legal log, or nothing where the edit is quiet (Hermenegildo, Puebla, Marriott and Stuckey 2000).
use Rattle.std.specs.Prelude.{◌≡◌, ◌≤◌, ℕ, ◌+◌, ◌-◌, Bool, cond, List, [], ◌∷◌, ◌++◌, length, take, Option, Some, None, Result, Ok, Err}
use Rattle.std.specs.Io.KnownBytes.{Appends}
use Rattle.plai_domain.specs.Plain.{PlainDomain}
use Rattle.plai_domain.specs.declared.work.WorkEntry.{WorkEntry}
use Rattle.plai_clauses.specs.Program.{ProgramView}
use Rattle.plai_clauses.specs.declared.edit_cause.EditCause.{EditCause}
use Rattle.plai_session.specs.Work.{IsWorkOf, IsCutOff}
use Rattle.plai_session.specs.declared.answer.EditAnswer.TheVariants as answer
use Rattle.plai_terms.specs.declared.row_name.RowName.{RowName}
use Rattle.plai_top.specs.Blocks.{Block, table, refused, stopped, text_of, is_table, texts_from, status_of_blocks, IsBlockOf, AreBlocksOf}
use Rattle.plai_top.specs.declared.form.Form.{Form}
use Rattle.plai_top.specs.declared.stop.Stop.{Stop}

-- a span of work: what was told before it and is told after it, and the steps that it took
pub record Span : Type 0 where
  pub before : Option (List WorkEntry)
  pub after : Option (List WorkEntry)
  pub steps : ℕ

-- the span between two counts of steps
abbrev pub between : Option (List WorkEntry) → Option (List WorkEntry) → ℕ → ℕ → Span
between before after old new = record { before = before; after = after; steps = new - old }

-- nothing is told in it, and it takes no step
pub record IsIdle (span : Span) : Type 0 where
  pub nothing : span.after ≡ span.before
  pub none : span.steps ≡ 0

-- it is the one span and then the other, and its steps are at most the sum of theirs
pub record AreJoined (first rest span : Span) : Type 0 where
  pub begins : first.before ≡ span.before
  pub meets : rest.before ≡ first.after
  pub ends : span.after ≡ rest.after
  pub within : span.steps ≤ first.steps + rest.steps

-- The program whose table is kept behind a block that shows a table or doesn't: its own program's where it shows one, none behind
-- a stop, and the same as before behind a refused edit.
abbrev pub kept_by : Option ProgramView → Result ProgramView EditCause → Bool → Option ProgramView
kept_by was (Ok program) shows_table = cond shows_table (Some program) None
kept_by was (Err cause) shows_table = was

abbrev pub kept_behind : Option ProgramView → Result ProgramView EditCause → Block → Option ProgramView
kept_behind was given block = kept_by was given (is_table block)

-- the program whose table is kept behind these blocks, one by one
abbrev pub kept_behind_all : Option ProgramView → List (Result ProgramView EditCause) → List Block → Option ProgramView
kept_behind_all was [] blocks = was
kept_behind_all was (given ∷ givens) [] = was
kept_behind_all was (given ∷ givens) (block ∷ blocks) = kept_behind_all (kept_behind was given block) givens blocks

-- The work of the block of that number, from the table that is kept of the program before, if there is one. For the block of a
-- program the mark of that number is told. Behind it nothing more is told where the edit is quiet; else a legal log is, which ends
-- where the block is a table, and else stops by the limit that the block names; its cost bounds the steps. Of a refused edit
-- nothing is told, and it takes no step.
abbrev pub IsWorked : PlainDomain → ℕ → Option ProgramView → ℕ → Result ProgramView EditCause → Block → Span → Type 0
IsWorked p limit was number (Ok program) (table rows checks verdicts) span =
    IsWorkOf p limit was program number span.before span.after span.steps answer.Table
IsWorked p limit was number (Ok program) (refused cause) span = ⊥
IsWorked p limit was number (Ok program) (stopped (Some most)) span =
    IsWorkOf p limit was program number span.before span.after span.steps (answer.StoppedRows most)
IsWorked p limit was number (Ok program) (stopped None) span =
    (row : RowName) × (clause : ℕ) × (literal : ℕ) × (place : ℕ)
    × IsWorkOf p limit was program number span.before span.after span.steps (answer.StoppedGroups row clause literal place)
IsWorked p limit was number (Err cause) block span = IsIdle span

-- the work of blocks, one by one, numbered from a number on, each from the table that is kept behind those before it
pub data AreWorked (p : PlainDomain) (limit : ℕ) : Option ProgramView → ℕ → List (Result ProgramView EditCause) → List Block → Span → Type 0 where
  none_worked : (was : Option ProgramView) (number : ℕ) (span : Span) → IsIdle span → AreWorked p limit was number [] [] span
  one_worked : (was : Option ProgramView) (number : ℕ) (given : Result ProgramView EditCause) (block : Block)
      (givens : List (Result ProgramView EditCause)) (blocks : List Block)
      (first rest span : Span) → IsWorked p limit was number given block first
      → AreWorked p limit (kept_behind was given block) (number + 1) givens blocks rest
      → AreJoined first rest span → AreWorked p limit was number (given ∷ givens) (block ∷ blocks) span

-- want of memory cut the work of the block of that number off: it did not begin, or nothing or a legal log is told behind the mark
abbrev pub IsWorkCutOff : PlainDomain → ℕ → Option ProgramView → ℕ → Result ProgramView EditCause → Span → Type 0
IsWorkCutOff p limit was number (Ok program) span = IsCutOff p limit was program number span.before span.after
IsWorkCutOff p limit was number (Err cause) span = span.after ≡ span.before

-- The work of the first block that was not written, and its bytes that were: the work was cut off, or all of it was done and a
-- prefix of the block was written.
pub data IsLastWorked (form : Form) (p : PlainDomain) (limit : ℕ) (was : Option ProgramView) (number : ℕ) (given : Result ProgramView EditCause) (span : Span)
    : List ℕ → Type 0 where
  is_cut_off : IsWorkCutOff p limit was number given span → IsLastWorked form p limit was number given span []
  is_unwritten : (block : Block) (n : ℕ) → IsBlockOf p limit given block → IsWorked p limit was number given block span
      → IsLastWorked form p limit was number given span (take n (text_of form number block))

-- the blocks of these were written, with this status, and the work is theirs, from no table on
pub record AllWorked (form : Form) (p : PlainDomain) (limit : ℕ) (givens : List (Result ProgramView EditCause)) (before after : Option (List ℕ))
    (span : Span) (status : ℕ) : Type 0 where
  pub blocks : List Block
  pub are : AreBlocksOf p limit givens blocks
  pub is_status : status ≡ status_of_blocks blocks
  pub bytes : Appends before after (texts_from form 0 blocks)
  pub worked : AreWorked p limit None 0 givens blocks span

-- the blocks of the first of these were written, however many, and the work is theirs and then that of the next one
pub record FirstWorked (form : Form) (p : PlainDomain) (limit : ℕ) (givens : List (Result ProgramView EditCause)) (before after : Option (List ℕ))
    (span : Span) : Type 0 where
  pub first : List (Result ProgramView EditCause)
  pub next : Result ProgramView EditCause
  pub others : List (Result ProgramView EditCause)
  pub parts : givens ≡ first ++ next ∷ others
  pub blocks : List Block
  pub are : AreBlocksOf p limit first blocks
  pub earlier : Span
  pub worked : AreWorked p limit None 0 first blocks earlier
  pub last : Span
  pub text : List ℕ
  pub last_worked : IsLastWorked form p limit (kept_behind_all None first blocks) (length blocks) next last text
  pub joined : AreJoined earlier last span
  pub bytes : Appends before after (texts_from form 0 blocks ++ text)

-- the work of blocks that were all written, or not all
abbrev pub WorksBlocks : Form → PlainDomain → ℕ → List (Result ProgramView EditCause) → Option (List ℕ) → Option (List ℕ) → Span → Result ℕ Stop → Type 0
WorksBlocks form p limit givens before after span (Ok status) = AllWorked form p limit givens before after span status
WorksBlocks form p limit givens before after span (Err stop) = FirstWorked form p limit givens before after span
