-- What a step of a run answers, by the first rule that applies.
use Rattle.std.specs.Prelude.{◌≡◌, ℕ, Bool, true, false, nat_lt, Option, Some, None, List, [], ◌∷◌, map}
use Rattle.plai_terms.specs.declared.term.Term.{Term}
use Rattle.plai_terms.specs.declared.outcome.Outcome.{Outcome}
use Rattle.plai_terms.specs.declared.outcome.Outcome.TheVariants as outcome
use Rattle.plai_terms.specs.Substitution.{under, raised}
use Rattle.plai_terms.specs.Unification.{Bindings, UnifiesTo}
use Rattle.plai_clauses.specs.declared.clause.Clause.{Clause}
use Rattle.plai_clauses.specs.Program.{ProgramView, clauses_of}
use Rattle.plai_builtins.specs.Meaning.{Means}
use Rattle.plai_sld.specs.declared.item.Item.{Item}
use Rattle.plai_sld.specs.declared.item.Item.TheVariants.{Call, Builtin, Mark}
use Rattle.plai_sld.specs.declared.stepped.Stepped.{Stepped}
use Rattle.plai_sld.specs.declared.stepped.Stepped.TheVariants.{Moved, NoClause, Clash, Spent, Done}
use Rattle.plai_sld.specs.Runs.{RunState, numbered_clause, IsStep}

-- the greatest number of a state whose goals still take a step
abbrev pub greatest_number : ℕ
greatest_number = 2147483647

-- to a unification
abbrev pub answer_to : Outcome → Stepped
answer_to (outcome.Unified s) = Moved
answer_to outcome.Clash = Clash
answer_to outcome.Occurs = Clash

-- to a meaning
abbrev pub answer_for : Option Bindings → Stepped
answer_for (Some s) = Moved
answer_for None = Clash

-- at a goal that has this clause, if it has one
abbrev pub AnswersHead : List Term → ℕ → Option Clause → Stepped → Type 0
AnswersHead args n None stepped = stepped ≡ NoClause
AnswersHead args n (Some clause) stepped =
    (o : Outcome) × UnifiesTo (map (under (raised n)) clause.head) args o × (stepped ≡ answer_to o)

-- where the number is too great, a goal takes no step
abbrev pub Within : Bool → Stepped → Type 0 → Type 0
Within true stepped Answer = stepped ≡ Spent
Within false stepped Answer = Answer

-- by the front of the list
abbrev pub AnswersAt : ProgramView → List Item → ℕ → ℕ → Stepped → Type 0
AnswersAt program [] n choice stepped = stepped ≡ Done
AnswersAt program (Mark pred was now ∷ rest) n choice stepped = stepped ≡ Moved
AnswersAt program (Call pred args ∷ rest) n choice stepped =
    Within (nat_lt greatest_number n) stepped (AnswersHead args n (numbered_clause (clauses_of program pred) choice) stepped)
AnswersAt program (Builtin name args ∷ rest) n choice stepped =
    Within (nat_lt greatest_number n) stepped ((found : Option Bindings) × Means name args n found × (stepped ≡ answer_for found))

-- the state after the answer: a step further, or as it was
abbrev pub IsAfter : ProgramView → RunState → ℕ → Stepped → RunState → Type 0
IsAfter program before choice Moved after = IsStep program before choice after
IsAfter program before choice NoClause after = after ≡ before
IsAfter program before choice Clash after = after ≡ before
IsAfter program before choice Spent after = after ≡ before
IsAfter program before choice Done after = after ≡ before

-- Goals take a step up to a greatest number. At a predicate's goal there may be no clause of that number, or its head and the
-- goal may not unify; a builtin's goal may have no meaning.
pub record Answers (program : ProgramView) (before : RunState) (choice : ℕ) (stepped : Stepped) (after : RunState) : Type 0 where
  pub answer : AnswersAt program before.items before.next choice stepped
  pub state : IsAfter program before choice stepped after
