-- Work that has ended, as a table and its arcs keep it, and the rows with which it opens (Hermenegildo, Puebla, Marriott and
-- Stuckey 2000). Clauses are numbered from 0 in rows under work, from 1 in arcs.
use Rattle.std.specs.Prelude.{ℕ, suc, true, cond, List, [], ◌∷◌, Option}
use Rattle.plai_theory.specs.Words.{given, item}
use Rattle.plai_theory.specs.Evaluation.{calls_of}
use Rattle.plai_theory.specs.LegalWork.{LogEntry}
use Rattle.plai_terms.specs.declared.abs.Abs.{Abs}
use Rattle.plai_domain.specs.Plain.{PlainDomain}
use Rattle.plai_clauses.specs.Program.{ProgramView, clauses_of}
use Rattle.plai_eval.specs.Meaning.{as_domain}
use Rattle.plai_table.specs.Rows.{TableRow}
use Rattle.plai_arcs.specs.declared.arcs.Arcs.{Arcs}
use Rattle.plai_fix_laws.specs.WorkStates.{KeptRow, Keeping, kept_source}
use Rattle.plai_fix_rows.specs.Tables.{state_of}
use Rattle.plai_fix_rows.specs.Told.{PlainRow, work_over}
use Rattle.plai_fix.specs.Stops.{IsSolvedBy}
use Rattle.plai_fix_rows.specs.Marks.{AreMarked}
use Rattle.plai_analysis.specs.Starts.{IsStart}

-- The kept row of this number as a row under work. A clause is dirty as the arcs say, and where there is none. A clause that is
-- not dirty called what it calls under the kept rows.
abbrev pub opened_row : (p : PlainDomain) → ProgramView → Keeping (as_domain p) → ℕ → KeptRow (as_domain p) → PlainRow
opened_row p program k n r =
    record {
      name = r.name;
      answer = r.answer;
      live = r.live;
      dirty = λ i. given true (λ c. k.dirty n (suc i)) (item (clauses_of program r.name.pred) i);
      calls = λ i. given [] (λ c. cond (k.dirty n (suc i)) [] (calls_of (as_domain p) (kept_source (as_domain p) k.rows) c r.name.call))
          (item (clauses_of program r.name.pred) i);
    }

-- the same of these rows, which begin with this number
abbrev pub opened_from : (p : PlainDomain) → ProgramView → Keeping (as_domain p) → ℕ → List (KeptRow (as_domain p)) → List PlainRow
opened_from p program k n [] = []
opened_from p program k n (r ∷ rows) = opened_row p program k n r ∷ opened_from p program k (suc n) rows

-- the rows of a table and its arcs, with which work on the program opens
abbrev pub opened_rows : {V : Type 0} → (V → Abs) → (p : PlainDomain) → ProgramView → List (TableRow V) → Arcs → List PlainRow
opened_rows value_of p program table arcs =
    opened_from p program (state_of value_of p table arcs) 0 (state_of value_of p table arcs).rows

-- Work on the program, from no rows or from those that an edit keeps, has ended, and table and arcs keep the state behind it. The
-- rows that are marked are the entries'.
pub record IsSolvedWork {V : Type 0} (value_of : V → Abs) (p : PlainDomain) (program : ProgramView) (limit : ℕ) (rows : List (TableRow V)) (arcs : Arcs)
    : Type 0 where
  pub was : Option ProgramView
  pub opened : List PlainRow
  pub start : IsStart p was program opened
  pub log : List (LogEntry (as_domain p))
  pub solved : IsSolvedBy p program limit (work_over p opened) (state_of value_of p rows arcs) log
  pub marked : AreMarked value_of p program rows
