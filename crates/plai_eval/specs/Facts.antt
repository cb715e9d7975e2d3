-- The rows of a program whose clauses are all facts.
use Rattle.std.specs.Prelude.{◌≡◌, List, [], ◌∷◌, Option, Some, None}
use Rattle.plai_theory.specs.Words.{IsIn, given}
use Rattle.plai_terms.specs.declared.abs.Abs.{Abs}
use Rattle.plai_terms.specs.declared.pred_key.PredKey.{PredKey}
use Rattle.plai_terms.specs.declared.plain_row.PlainRow.{PlainRow}
use Rattle.plai_terms.specs.Rows.{AreInOrder}
use Rattle.plai_domain.specs.Plain.{PlainDomain}
use Rattle.plai_clauses.specs.declared.clause.Clause.{Clause}
use Rattle.plai_clauses.specs.declared.entry.Entry.{Entry}
use Rattle.plai_clauses.specs.Program.{ProgramView, clauses_of, entries_of}
use Rattle.plai_eval.specs.Meaning.{entry_name}
use Rattle.plai_eval.specs.LeastTable.{answer_in}

-- no clause has a body
abbrev pub AreFacts : ProgramView → Type 0
AreFacts program = (pred : PredKey) (clause : Clause) → IsIn clause (clauses_of program pred) → clause.body ≡ []

-- the answer of a fact at a call, or none
abbrev pub fact_answer : PlainDomain → Clause → Abs → Option Abs
fact_answer p fact call = given None (λ state. Some (p.exit state fact.head)) (p.enter call fact.head fact.variables).value

-- the join, with none below all
abbrev pub join_of : PlainDomain → Option Abs → Option Abs → Option Abs
join_of p None b = b
join_of p (Some a) None = Some a
join_of p (Some a) (Some b) = Some (p.join a b)

-- the join of the answers of facts, from the last one on; none without facts
abbrev pub facts_answer : PlainDomain → List Clause → Abs → Option Abs
facts_answer p [] call = None
facts_answer p (fact ∷ facts) call = join_of p (fact_answer p fact call) (facts_answer p facts call)

-- A row for each entry, and for nothing else, in order, with the join of what its predicate's facts answer.
pub record AreFactRows (p : PlainDomain) (program : ProgramView) (rows : List PlainRow) : Type 0 where
  pub ordered : AreInOrder rows
  pub sound : (r : PlainRow) → IsIn r rows → (e : Entry) × IsIn e (entries_of program) × (r.name ≡ entry_name p e)
  pub whole : (e : Entry) → IsIn e (entries_of program) → (r : PlainRow) × IsIn r rows × (r.name ≡ entry_name p e)
  pub answers : (r : PlainRow) → IsIn r rows → answer_in r.answer ≡ facts_answer p (clauses_of program r.name.pred) r.name.call
