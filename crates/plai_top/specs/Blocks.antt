-- The blocks of a call: one for the loaded program, with number 0, and one for each edit of the script behind it.
use Rattle.std.specs.Prelude.{◌≡◌, ◌≤◌, ℕ, ◌+◌, Bool, true, false, cond, List, [], ◌∷◌, ◌++◌, Option, None, Some, Result, Ok, Err, length, map}
use Rattle.std.specs.List.{list_all}
use Rattle.plai_terms.specs.declared.plain_row.PlainRow.{PlainRow}
use Rattle.plai_domain.specs.Plain.{PlainDomain}
use Rattle.plai_clauses.specs.Program.{ProgramView}
use Rattle.plai_clauses.specs.declared.check.Check.{Check}
use Rattle.plai_clauses.specs.declared.edit_cause.EditCause.{EditCause}
use Rattle.plai_assert.specs.declared.verdict.Verdict.{Verdict}
use Rattle.plai_assert.specs.Verdicts.{verdicts_of}
use Rattle.plai_eval.specs.LeastTable.{IsLeastTable}
use Rattle.plai_eval.specs.Stops.{IsOver}
use Rattle.plai_render.specs.Block.{lines_text}
use Rattle.plai_render.specs.Made.{counts_text, made_refused_text, made_stopped_text}
use Rattle.plai_render.specs.Refused.{refused_text}
use Rattle.plai_render.specs.Stopped.{stopped_text}
use Rattle.plai_render.specs.Texts as texts
use Rattle.plai_render.specs.declared.text_row.TextRow.{TextRow}
use Rattle.plai_analysis.specs.Causes.{AreTooMany}
use Rattle.plai_top.specs.declared.form.Form.{Form}
use Rattle.plai_top.specs.declared.form.Form.TheVariants.{Tables, Counts}

-- what a block shows: the rows of a table and its verdicts on assertions, why an edit is refused, or the limit that an analysis
-- met, which is so many rows or else the groups of a set
pub data Block : Type 0 where
  table : List PlainRow → List Check → List Verdict → Block
  refused : EditCause → Block
  stopped : Option ℕ → Block

-- a table, why an edit is refused, and a limit, each as a block of lines or as one line, which counts rows
abbrev pub rows_text : Form → ℕ → List TextRow → List Check → List Verdict → List ℕ
rows_text Tables number rows checks verdicts = lines_text number rows checks verdicts
rows_text Counts number rows checks verdicts = counts_text number rows

abbrev pub cause_text : Form → ℕ → EditCause → List ℕ
cause_text Tables number cause = refused_text number cause
cause_text Counts number cause = made_refused_text number cause

abbrev pub limit_text : Form → ℕ → Option ℕ → List ℕ
limit_text Tables number limit = stopped_text number limit
limit_text Counts number limit = made_stopped_text number limit

-- its text, with its number
abbrev pub text_of : Form → ℕ → Block → List ℕ
text_of form number (table rows checks verdicts) = rows_text form number (map texts.text_of rows) checks verdicts
text_of form number (refused cause) = cause_text form number cause
text_of form number (stopped limit) = limit_text form number limit

abbrev pub is_table : Block → Bool
is_table (table rows checks verdicts) = true
is_table (refused cause) = false
is_table (stopped limit) = false

-- the texts of blocks, numbered from a number on
abbrev pub texts_from : Form → ℕ → List Block → List ℕ
texts_from form number [] = []
texts_from form number (block ∷ blocks) = text_of form number block ++ texts_from form (number + 1) blocks

-- 0 where each block is a table, else 1
abbrev pub status_of_blocks : List Block → ℕ
status_of_blocks blocks = cond (list_all is_table blocks) 0 1

-- the block of these rows with their verdicts on the program's assertions
abbrev pub table_of : PlainDomain → ProgramView → List PlainRow → Block
table_of p program rows = table rows program.checks (verdicts_of p rows program.checks)

-- The block of a program, or of why there is none, under a domain with a limit of rows: the least table with its verdicts, where
-- it keeps the limit and no evaluation forms a set of too many groups, a stop by its cause, or the cause of the refusal.
pub data IsBlockOf (p : PlainDomain) (limit : ℕ) : Result ProgramView EditCause → Block → Type 0 where
  is_table_of : (program : ProgramView) (rows : List PlainRow) → IsLeastTable p program rows → length rows ≤ limit → (IsOver p program → ⊥)
      → IsBlockOf p limit (Ok program) (table_of p program rows)
  many_rows : (program : ProgramView) → AreTooMany p program limit → IsBlockOf p limit (Ok program) (stopped (Some limit))
  large_sets : (program : ProgramView) → IsOver p program → IsBlockOf p limit (Ok program) (stopped None)
  is_refused : (cause : EditCause) → IsBlockOf p limit (Err cause) (refused cause)

-- the blocks of these, one by one
pub data AreBlocksOf (p : PlainDomain) (limit : ℕ) : List (Result ProgramView EditCause) → List Block → Type 0 where
  no_more : AreBlocksOf p limit [] []
  one_more : (given : Result ProgramView EditCause) (block : Block) (others : List (Result ProgramView EditCause)) (blocks : List Block)
      → IsBlockOf p limit given block → AreBlocksOf p limit others blocks → AreBlocksOf p limit (given ∷ others) (block ∷ blocks)

-- the text of blocks of the first of these, however many
pub record IsTextOfFirst (form : Form) (p : PlainDomain) (limit : ℕ) (givens : List (Result ProgramView EditCause)) (text : List ℕ) : Type 0 where
  pub first : List (Result ProgramView EditCause)
  pub others : List (Result ProgramView EditCause)
  pub parts : givens ≡ first ++ others
  pub blocks : List Block
  pub are : AreBlocksOf p limit first blocks
  pub is_text : text ≡ texts_from form 0 blocks

-- a stop, by that many rows or by groups
pub data IsStop (limit : ℕ) : Block → Type 0 where
  by_rows : IsStop limit (stopped (Some limit))
  by_groups : IsStop limit (stopped None)

-- a table of no more rows than that, or a stop
pub data IsTableOrStop (limit : ℕ) : Block → Type 0 where
  is_within : (rows : List PlainRow) (checks : List Check) (verdicts : List Verdict) → length rows ≤ limit → IsTableOrStop limit (table rows checks verdicts)
  is_stop : (block : Block) → IsStop limit block → IsTableOrStop limit block

-- the same blocks, but that a stop may stand in the place of a table or of the other stop
pub data AreSameUpToStops (limit : ℕ) : List Block → List Block → Type 0 where
  none_left : AreSameUpToStops limit [] []
  same_block : (block : Block) (blocks others : List Block) → AreSameUpToStops limit blocks others → AreSameUpToStops limit (block ∷ blocks) (block ∷ others)
  stop_before : (stop block : Block) (blocks others : List Block) → IsStop limit stop → IsTableOrStop limit block → AreSameUpToStops limit blocks others
      → AreSameUpToStops limit (stop ∷ blocks) (block ∷ others)
  stop_behind : (stop block : Block) (blocks others : List Block) → IsStop limit stop → IsTableOrStop limit block → AreSameUpToStops limit blocks others
      → AreSameUpToStops limit (block ∷ blocks) (stop ∷ others)
