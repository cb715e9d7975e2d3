-- What a list of rows says of runs: which goals are described, and that a row describes each call, and one row each answer
-- with its call (Muthukumar and Hermenegildo 1992).
use Rattle.std.specs.Prelude.{◌≡◌, ℕ, Some, List, [], ◌∷◌, length, map}
use Rattle.plai_theory.specs.Words.{IsIn}
use Rattle.plai_theory.specs.Tables as theory
use Rattle.plai_terms.specs.declared.term.Term.{Term}
use Rattle.plai_terms.specs.declared.abs.Abs.{Abs}
use Rattle.plai_terms.specs.declared.pred_key.PredKey.{PredKey}
use Rattle.plai_terms.specs.declared.plain_row.PlainRow.{PlainRow}
use Rattle.plai_domain.specs.Plain.{PlainDomain}
use Rattle.plai_clauses.specs.declared.entry.Entry.{Entry}
use Rattle.plai_clauses.specs.Program.{ProgramView, entries_of}
use Rattle.plai_eval.specs.Meaning.{as_domain, as_program, entry_name}
use Rattle.plai_eval.specs.LeastTable.{answer_in, row_of}
use Rattle.plai_sld.specs.declared.item.Item.{Item}
use Rattle.plai_sld.specs.declared.item.Item.TheVariants.{Call, Builtin, Mark}
use Rattle.plai_sld.specs.Runs.{RunState, start_of, IsRun}

-- The rows have distinct names. Each entry's name and each name that an evaluation of a row calls has a row, and no evaluation
-- of a row gives more than its answer.
abbrev pub IsClosed : PlainDomain → ProgramView → List PlainRow → Type 0
IsClosed p program rows = theory.IsClosed (as_domain p) (as_program p program) (map (row_of p) rows)

-- a goal of an entry's predicate whose arguments the entry's pattern describes
abbrev pub IsDescribedGoal : PlainDomain → ProgramView → PredKey → List Term → Type 0
IsDescribedGoal p program pred args =
    (entry : Entry) × IsIn entry (entries_of program) × (entry.pred ≡ pred)
    × p.describes (entry_name p entry).call args × (length args ≡ pred.arity)

-- a row of the predicate describes the call
abbrev pub IsCallDescribed : PlainDomain → List PlainRow → PredKey → List Term → Type 0
IsCallDescribed p rows pred args = (row : PlainRow) × IsIn row rows × (row.name.pred ≡ pred) × p.describes row.name.call args

-- one row of the predicate describes by its call the arguments as they were, and by its answer the arguments as they are
abbrev pub IsAnswerDescribed : PlainDomain → List PlainRow → PredKey → List Term → List Term → Type 0
IsAnswerDescribed p rows pred was now =
    (row : PlainRow) × IsIn row rows × (row.name.pred ≡ pred) × p.describes row.name.call was
    × (answer : Abs) × (answer_in row.answer ≡ Some answer) × p.describes answer now

-- what is at the front of a list: a goal of a predicate is a call, a mark is an answer
abbrev pub IsFrontDescribed : PlainDomain → List PlainRow → List Item → Type 0
IsFrontDescribed p rows [] = Unit {0}
IsFrontDescribed p rows (Call pred args ∷ rest) = IsCallDescribed p rows pred args
IsFrontDescribed p rows (Builtin name args ∷ rest) = Unit {0}
IsFrontDescribed p rows (Mark pred was now ∷ rest) = IsAnswerDescribed p rows pred was now

-- Every call and every answer of every run from a described goal is described by the rows.
abbrev pub AreRunsDescribed : PlainDomain → ProgramView → List PlainRow → Type 0
AreRunsDescribed p program rows =
    (pred : PredKey) (args : List Term) → IsDescribedGoal p program pred args
    → (choices : List ℕ) (last : RunState) → IsRun program (start_of pred args) choices last
    → IsFrontDescribed p rows last.items
