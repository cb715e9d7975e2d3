-- Quiet edits: they change nothing that the least table stands on (Hermenegildo, Puebla, Marriott and Stuckey 2000).
use Rattle.std.specs.Prelude.{◌≡◌, List, Option, Some, None}
use Rattle.plai_theory.specs.Words.{IsIn}
use Rattle.plai_theory.specs.LeastTable.{Row, IsLeastTable}
use Rattle.plai_domain.specs.Plain.{PlainDomain}
use Rattle.plai_clauses.specs.Program.{ProgramView, clauses_of, entries_of}
use Rattle.plai_eval.specs.Meaning.{as_domain, as_program}
use Rattle.plai_eval.specs.LeastTable as order

-- the edit leaves the entries, and the clauses of each predicate that has a row in the least table
pub record IsQuiet (p : PlainDomain) (was program : ProgramView) : Type 0 where
  pub table : List (Row (as_domain p))
  pub least : IsLeastTable (as_domain p) (as_program p was) (order.before p) table
  pub entries : entries_of program ≡ entries_of was
  pub clauses : (r : Row (as_domain p)) → IsIn r table → clauses_of program r.name.pred ≡ clauses_of was r.name.pred

-- there is a program before it whose edit into it is quiet
abbrev pub IsQuietAfter : PlainDomain → Option ProgramView → ProgramView → Type 0
IsQuietAfter p None program = ⊥
IsQuietAfter p (Some was) program = IsQuiet p was program
