-- The whole promise on the block of an edit: its bytes are the text of the least table of the program after the edit, kept to
-- the rows that its entries reach, and every call and every answer in every left-to-right resolution, of any number of steps
-- from a described goal, is described by one printed row, and each verdict keeps its promise in all of them (Muthukumar and
-- Hermenegildo 1992; resolution with the occurs check as in Lloyd, Foundations of Logic Programming, 1987).
use Rattle.std.specs.Prelude.{◌≡◌, ℕ, ◌+◌, Some, List, [], ◌∷◌, ◌++◌, Result, Ok, Err}
use Rattle.std.specs.Io.KnownBytes.{Appends}
use Rattle.std.specs.declared.option.Option.{Option}
use Rattle.plai_base.specs.Texts.{TextMap}
use Rattle.plai_theory.specs.Words.{IsIn}
use Rattle.plai_terms.specs.declared.term.Term.{Term}
use Rattle.plai_terms.specs.declared.abs.Abs.{Abs}
use Rattle.plai_terms.specs.declared.pred_key.PredKey.{PredKey}
use Rattle.plai_terms.specs.declared.plain_row.PlainRow.{PlainRow}
use Rattle.plai_domain.specs.Plain.{PlainDomain}
use Rattle.plai_clauses.specs.Program.{ProgramView}
use Rattle.plai_clauses.specs.declared.check.Check.{Check}
use Rattle.plai_clauses.specs.declared.edit_cause.EditCause.{EditCause}
use Rattle.plai_assert.specs.Verdicts.{verdict_of, verdicts_of}
use Rattle.plai_eval.specs.LeastTable.{IsLeastTable, answer_in}
use Rattle.plai_sld.specs.Verdicts.{IsCalled, IsAnswered, IsKeptByRuns}
use Rattle.plai_render.specs.Block.{row_text, block_text}
use Rattle.plai_render.specs.Texts.{text_of}
use Rattle.plai_script.specs.declared.edit.Edit.{Edit}
use Rattle.plai_session.specs.Programs.{behind}
use Rattle.plai_words.specs.declared.types.Settings.{Settings}
use Rattle.plai_top.specs.Blocks.{Block, table, refused, stopped, texts_from}
use Rattle.plai_top.specs.Outcome.{IsAsked, AreBlocks}
use Rattle.plai_top.specs.Tasks.{domain_of, form_of, task_of}

-- it is one of these rows, and its line stands in the block
pub record IsPrinted (rows : List PlainRow) (block : List ℕ) (row : PlainRow) : Type 0 where
  pub inside : IsIn row rows
  pub before : List ℕ
  pub after : List ℕ
  pub line : block ≡ before ++ 10 ∷ row_text (text_of row) ++ after

-- the call of one printed row of the predicate describes the arguments
abbrev pub IsCallPrinted : PlainDomain → List PlainRow → List ℕ → PredKey → List Term → Type 0
IsCallPrinted p rows block pred args = (row : PlainRow) × IsPrinted rows block row × (row.name.pred ≡ pred) × p.describes row.name.call args

-- one printed row of the predicate describes by its call the arguments as they were, and by its answer the arguments as they are
abbrev pub IsAnswerPrinted : PlainDomain → List PlainRow → List ℕ → PredKey → List Term → List Term → Type 0
IsAnswerPrinted p rows block pred was now =
    (row : PlainRow) × IsPrinted rows block row × (row.name.pred ≡ pred) × p.describes row.name.call was
    × (answer : Abs) × (answer_in row.answer ≡ Some answer) × p.describes answer now

-- Every call in every left-to-right resolution, of any number of steps from a described goal, is described by the call of one
-- printed row of its predicate, and every answer by one printed row, by its call as it was and by its answer as it is now.
pub record DescribesRuns (p : PlainDomain) (program : ProgramView) (rows : List PlainRow) (block : List ℕ) : Type 0 where
  pub calls : (pred : PredKey) (args : List Term) → IsCalled p program pred args → IsCallPrinted p rows block pred args
  pub answers : (pred : PredKey) (was now : List Term) → IsAnswered p program pred was now → IsAnswerPrinted p rows block pred was now

-- The block of the edit of that number is the text of rows, the program's least table, with their verdicts on the program's
-- assertions. These rows describe all runs of the program, and each verdict keeps its promise in all of them.
pub record IsPromised (p : PlainDomain) (program : ProgramView) (number : ℕ) (block : List ℕ) : Type 0 where
  pub rows : List PlainRow
  pub least : IsLeastTable p program rows
  pub written : block ≡ block_text number rows program.checks (verdicts_of p rows program.checks)
  pub described : DescribesRuns p program rows block
  pub kept : (check : Check) → IsIn check program.checks → IsKeptByRuns p program check (verdict_of p rows check)

-- a block that shows a table keeps the promise for its program; one that doesn't promises nothing
abbrev pub IsPromisedBlock : PlainDomain → ℕ → Result ProgramView EditCause → Block → Type 0
IsPromisedBlock p number (Ok program) (table rows checks verdicts) = IsPromised p program number (block_text number rows checks verdicts)
IsPromisedBlock p number (Ok program) (refused cause) = Unit {0}
IsPromisedBlock p number (Ok program) (stopped limit) = Unit {0}
IsPromisedBlock p number (Err cause) block = Unit {0}

-- so do the blocks of these, numbered from a number on
abbrev pub ArePromised : PlainDomain → ℕ → List (Result ProgramView EditCause) → List Block → Type 0
ArePromised p number [] blocks = Unit {0}
ArePromised p number (given ∷ givens) [] = Unit {0}
ArePromised p number (given ∷ givens) (block ∷ blocks) = IsPromisedBlock p number given block × ArePromised p (number + 1) givens blocks

-- The bytes taken are the blocks of the loaded program and of the program behind each edit, or of why an edit is refused, and
-- each block that shows a table keeps the promise.
pub record TakesPromised (words : List (List ℕ)) (files : TextMap) (script : List ℕ) (before after : Option (List ℕ)) : Type 0 where
  pub settings : Settings
  pub program : ProgramView
  pub items : List (Result Edit EditCause)
  pub blocks : List Block
  pub asked : IsAsked words files script settings program items
  pub are : AreBlocks settings program items blocks
  pub taken : Appends before after (texts_from (form_of settings) 0 blocks)
  pub promised : ArePromised (domain_of (task_of settings)) 0 (Ok program ∷ behind program items) blocks
