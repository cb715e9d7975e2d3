-- How a table and its arcs are opened after an edit (Hermenegildo, Puebla, Marriott and Stuckey 2000).
use Rattle.std.specs.Prelude.{◌≡◌, ℕ, false, List, None, Some, slice_get}
use Rattle.plai_theory.specs.LeastTable.{Row}
use Rattle.plai_theory.specs.LegalWork.{WorkRow}
use Rattle.plai_theory.specs.Edits.{IsOpening}
use Rattle.plai_terms.specs.declared.abs.Abs.{Abs}
use Rattle.plai_domain.specs.Plain.{PlainDomain}
use Rattle.plai_clauses.specs.Program.{ProgramView}
use Rattle.plai_eval.specs.Meaning.{as_domain, as_program}
use Rattle.plai_eval.specs.LeastTable as order
use Rattle.plai_table.specs.Rows.{TableRow, with_live, with_entry}
use Rattle.plai_arcs.specs.declared.arcs.Arcs.{Arcs}
use Rattle.plai_fix_laws.specs.WorkStates.{Keeps}
use Rattle.plai_fix_rows.specs.Tables.{state_of}
use Rattle.plai_repair.specs.Whole.{IsWhole}

-- the row, dormant and no entry's
abbrev pub slept : {V : Type 0} → TableRow V → TableRow V
slept r = with_entry false (with_live false r)

-- each row is dormant and no entry's
pub record AreAsleep {V : Type 0} (rows : List (TableRow V)) : Type 0 where
  pub dormant : (n : ℕ) (r : TableRow V) → slice_get rows n ≡ Some r → r.live ≡ false
  pub unmarked : (n : ℕ) (r : TableRow V) → slice_get rows n ≡ Some r → r.entry ≡ false

-- table and arcs keep the program's least table, whose rows are these
abbrev pub IsWholeTable : {V : Type 0} → (V → Abs) → (p : PlainDomain) → ProgramView → List (Row (as_domain p)) → List (TableRow V) → Arcs → Type 0
IsWholeTable value_of p program rows table arcs =
    IsWhole (as_domain p) (as_program p program) (order.before p) rows (state_of value_of p table arcs)

-- Table and arcs keep rows with which work on the new program opens behind the least table of the old one. Each is dormant
-- and no entry's.
pub record IsOpened {V : Type 0} (value_of : V → Abs) (p : PlainDomain) (before after : ProgramView) (rows : List (Row (as_domain p)))
    (table : List (TableRow V)) (arcs : Arcs) : Type 0 where
  pub opened : List (WorkRow (as_domain p))
  pub opening : IsOpening (as_domain p) (as_program p before) (as_program p after) rows opened
  pub keeps : Keeps (as_domain p) (as_program p after) (state_of value_of p table arcs) None opened
  pub asleep : AreAsleep table
