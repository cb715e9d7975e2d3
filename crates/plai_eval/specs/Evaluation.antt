-- Evaluation of a clause, and stages, over patterns (Muthukumar and Hermenegildo 1992).
use Rattle.std.specs.Prelude.{ℕ, suc, List, [], ◌∷◌, map, Option, Some, None, option_map}
use Rattle.plai_theory.specs.Words.{given}
use Rattle.plai_theory.specs.Domain.{Step, Goal, Do}
use Rattle.plai_theory.specs.Evaluation.{state_behind, answer_of, calls_of}
use Rattle.plai_theory.specs.Evaluation as theory
use Rattle.plai_theory.specs.Stages as stages
use Rattle.plai_terms.specs.declared.abs.Abs.{Abs}
use Rattle.plai_terms.specs.declared.row_name.RowName.{RowName}
use Rattle.plai_domain.specs.Plain.{StateView, PlainDomain}
use Rattle.plai_domain.specs.Outcomes.{too_large}
use Rattle.plai_clauses.specs.declared.clause.Clause.{Clause}
use Rattle.plai_clauses.specs.declared.clause.Literal.{Literal}
use Rattle.plai_clauses.specs.Program.{ProgramView}
use Rattle.plai_eval.specs.Meaning.{Calling, Acting, literal_then, row_name, as_domain, as_program}

-- the answer of each row, or none
abbrev pub Source : Type 0
Source = RowName → Option Abs

abbrev pub as_source : (p : PlainDomain) → Source → theory.Source (as_domain p)
as_source p source pred call = source (record { pred = pred; call = call })

-- the first of two, where there is one
abbrev pub first_of : {A : Type 0} → Option A → Option A → Option A
first_of None b = b
first_of (Some a) b = Some a

-- a literal's number, and the place of the first of these sets that is too large
abbrev pub over_at : ℕ → List ℕ → Option (ℕ × ℕ)
over_at number sizes = option_map (λ place. (number, place)) (too_large sizes)

-- the first set of these steps of one literal that is too large, with its place in its operation
abbrev pub over_in : PlainDomain → Source → ℕ → List (Step Calling Acting) → StateView → Option (ℕ × ℕ)
over_in p source number [] state = None
over_in p source number (Do x ∷ rest) state =
    let refined = p.refine state x.args x.action in
    first_of (over_at number refined.sizes) (given None (over_in p source number rest) refined.value)
over_in p source number (Goal l ∷ rest) state =
    let called = p.call state l.args in
    first_of (over_at number called.sizes)
    (given None
    (λ answer.
    let back = p.back state l.args answer in
    first_of (over_at number back.sizes) (given None (over_in p source number rest) back.value))
    (source (record { pred = l.pred; call = called.value })))

-- the first one of a clause's literals, the first of which has this number
abbrev pub over_along : PlainDomain → Source → ℕ → List Literal → StateView → Option (ℕ × ℕ)
over_along p source number [] state = None
over_along p source number (literal ∷ literals) state =
    let steps = literal_then literal literal.target [] in
    first_of (over_in p source number steps state)
    (given None (over_along p source (suc number) literals) (state_behind (as_domain p) (as_source p source) steps state))

-- the first one of an evaluation: the head is literal 0
unfoldable pub over_of : PlainDomain → Source → Clause → Abs → Option (ℕ × ℕ)
over_of p source clause call =
    let entered = p.enter call clause.head clause.variables in
    first_of (over_at 0 entered.sizes) (given None (over_along p source 1 clause.body) entered.value)

-- what an evaluation gives: an answer or none, the names of the rows that it called, in order, and the literal and the
-- place of the first set that is too large
pub record Evaluation : Type 0 where
  pub answer : Option Abs
  pub calls : List RowName
  pub over : Option (ℕ × ℕ)

-- the evaluation of a clause for a call, with these answers of the rows that it calls
abbrev pub evaluation : PlainDomain → Source → Clause → Abs → Evaluation
evaluation p source clause call =
    record {
      answer = answer_of (as_domain p) (as_source p source) clause call;
      calls = map row_name (calls_of (as_domain p) (as_source p source) clause call);
      over = over_of p source clause call;
    }

-- the answers after so many stages from nothing
abbrev pub stage : PlainDomain → ProgramView → ℕ → Source
stage p program n name = stages.stage (as_domain p) (as_program p program) n name.pred name.call
