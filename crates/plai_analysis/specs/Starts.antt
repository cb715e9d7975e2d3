-- Where work on a program begins: with no rows, or with those that an edit keeps (Hermenegildo, Puebla, Marriott and Stuckey
-- 2000).
use Rattle.std.specs.Prelude.{◌≡◌, List, [], Option, Some, None}
use Rattle.plai_theory.specs.LeastTable.{Row, IsLeastTable}
use Rattle.plai_theory.specs.Edits.{IsOpening}
use Rattle.plai_domain.specs.Plain.{PlainDomain}
use Rattle.plai_clauses.specs.Program.{ProgramView}
use Rattle.plai_clauses.specs.WellFormed.{IsWellFormed}
use Rattle.plai_eval.specs.Meaning.{as_domain, as_program}
use Rattle.plai_eval.specs.LeastTable as order
use Rattle.plai_eval.specs.Stops.{IsOver}
use Rattle.plai_fix_rows.specs.Told.{PlainRow, work_over}

-- These are the rows that an edit of the one program into the other keeps of its least table: dormant, with their answers and
-- recorded calls; what their predicates gained is dirty.
pub record IsKeptOf (p : PlainDomain) (was program : ProgramView) (opened : List PlainRow) : Type 0 where
  pub well_formed : IsWellFormed was
  pub table : List (Row (as_domain p))
  pub least : IsLeastTable (as_domain p) (as_program p was) (order.before p) table
  pub opening : IsOpening (as_domain p) (as_program p was) (as_program p program) table (work_over p opened).rows

-- work on the program begins with these rows: with none, or with those that the edit of the program before it keeps
abbrev pub IsStart : PlainDomain → Option ProgramView → ProgramView → List PlainRow → Type 0
IsStart p None program opened = opened ≡ []
IsStart p (Some was) program opened = IsKeptOf p was program opened

-- the program before it, if there is one, forms no set of too many groups
abbrev pub AreFine : PlainDomain → Option ProgramView → Type 0
AreFine p None = Unit {0}
AreFine p (Some was) = IsOver p was → ⊥
