-- A session: a program under edits, and its table (Hermenegildo, Puebla, Marriott and Stuckey 2000).
use Rattle.std.specs.Prelude.{◌≡◌, ◌≤◌, ℕ, Bool, true, false, All, List, length, Option, None, Some, Result, Ok, Err, IfSome}
use Rattle.std.specs.Option.{option_map}
use Rattle.plai_terms.specs.declared.abs.Abs.{Abs}
use Rattle.plai_terms.specs.declared.plain_row.PlainRow.{PlainRow}
use Rattle.plai_domain.specs.Plain.{PlainDomain}
use Rattle.plai_clauses.specs.Program.{ProgramView}
use Rattle.plai_clauses.specs.declared.edit_cause.EditCause.{EditCause}
use Rattle.plai_assert.specs.Verdicts.{verdicts_of}
use Rattle.plai_eval.specs.LeastTable.{IsLeastTable}
use Rattle.plai_eval.specs.Stops.{IsOver}
use Rattle.plai_render.specs.declared.text_table.TextTable.{TextTable}
use Rattle.plai_render.specs.Order.{IsNarrow}
use Rattle.plai_render.specs.Texts.{AreTextsOf}
use Rattle.plai_analysis.specs.Table.{IsTextTable}
use Rattle.plai_analysis.specs.declared.analysed.Analysed.{Analysed}
use Rattle.plai_analysis.specs.Causes.{AreTooMany, IsOverThere}
use Rattle.plai_analysis.specs.Kept.{IsKeptTable}
use Rattle.plai_session.specs.declared.answer.EditAnswer.{EditAnswer}
use Rattle.plai_session.specs.declared.answer.EditAnswer.TheVariants.{Table, Refused, StoppedRows, StoppedGroups}

-- the domain, the most rows, the program, its table as text with its verdicts, where there is one, and whether an edit met
-- want of memory
pub record SessionView (D : Type 0) : Type 0 where
  pub domain : D
  pub limit : ℕ
  pub program : ProgramView
  pub table : Option TextTable
  pub lost : Bool

-- the least table of the program and its verdicts on the program's assertions; none of its evaluations forms a set of too many
-- groups
pub record IsTableOf (p : PlainDomain) (limit : ℕ) (program : ProgramView) (table : TextTable) : Type 0 where
  pub least : IsTextTable p program limit table
  pub not_over : IsOver p program → ⊥

-- the rows behind the texts of a table: those of the program's least table, in order, of whose assertions the table has the
-- verdicts
pub record AreRowsOf (p : PlainDomain) (limit : ℕ) (program : ProgramView) (table : TextTable) (rows : List PlainRow) : Type 0 where
  pub least : IsLeastTable p program rows
  pub narrow : All IsNarrow rows
  pub within : length rows ≤ limit
  pub are_texts : AreTextsOf rows table.rows
  pub are_verdicts : table.verdicts ≡ verdicts_of p rows program.checks

-- rows are given exactly where there is a table, and are those behind it
abbrev pub AreRowsGiven : PlainDomain → ℕ → ProgramView → Option TextTable → Option (List PlainRow) → Type 0
AreRowsGiven p limit program table None = table ≡ None
AreRowsGiven p limit program table (Some rows) = (own : TextTable) × (table ≡ Some own) × AreRowsOf p limit program own rows

-- the table of an analysis that has one
abbrev pub texts_in : {V : Type 0} → Option (Analysed V) → Option TextTable
texts_in analysed = option_map (λ a. a.texts) analysed

-- the program, where this of it is kept
abbrev pub program_of : {T : Type 0} → ProgramView → Option T → Option ProgramView
program_of program None = None
program_of program (Some own) = Some program

-- the program whose table a session keeps, from which its next edit is worked on
abbrev pub kept_program : {D : Type 0} → SessionView D → Option ProgramView
kept_program s = program_of s.program s.table

-- what a session keeps: a table that is there is the program's, and table and arcs keep it; there is none after want of memory
pub record IsKept {V : Type 0} (value_of : V → Abs) (p : PlainDomain) (limit : ℕ) (program : ProgramView) (analysed : Option (Analysed V)) (lost : Bool)
    : Type 0 where
  pub own : IfSome analysed (λ a. IsTableOf p limit program a.texts)
  pub worked : IfSome analysed (λ a. IsKeptTable value_of p program limit a.table.rows a.arcs)
  pub none_if_lost : lost ≡ true → analysed ≡ None

-- what the analysis of a program gives: its table, or none and a stop by its cause
abbrev pub IsAnalysed : PlainDomain → ℕ → ProgramView → Option TextTable → EditAnswer → Type 0
IsAnalysed p limit program table Table = (own : TextTable) × (table ≡ Some own) × IsTableOf p limit program own
IsAnalysed p limit program table (Refused cause) = ⊥
IsAnalysed p limit program table (StoppedRows most) = (table ≡ None) × (most ≡ limit) × AreTooMany p program limit
IsAnalysed p limit program table (StoppedGroups row clause literal place) =
    (table ≡ None) × IsOver p program × IsOverThere p program limit row clause literal place

-- what a session becomes where an edit makes this of its program: refused, it is as before; accepted, it has the program and
-- what its analysis gives
abbrev pub IsEdited : {D : Type 0} → PlainDomain → SessionView D → SessionView D → EditAnswer → Result ProgramView EditCause → Type 0
IsEdited p old new answer (Err cause) = (answer ≡ Refused cause) × (new ≡ old)
IsEdited p old new answer (Ok program) = (new.program ≡ program) × (new.domain ≡ old.domain) × (new.limit ≡ old.limit) × (new.lost ≡ false)
    × IsAnalysed p old.limit program new.table answer

-- want of memory: the session has no table any more and is lost, with the program from before the edit
pub record IsLost {D : Type 0} (old new : SessionView D) : Type 0 where
  pub same_domain : new.domain ≡ old.domain
  pub same_limit : new.limit ≡ old.limit
  pub same_program : new.program ≡ old.program
  pub no_table : new.table ≡ None
  pub lost : new.lost ≡ true

-- the edit is refused
abbrev pub IsRefusal : EditAnswer → Type 0
IsRefusal answer = (cause : EditCause) × (answer ≡ Refused cause)
