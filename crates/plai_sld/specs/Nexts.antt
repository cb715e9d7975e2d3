-- What a step comes to, before the run is changed.
use Rattle.std.specs.Prelude.{◌≡◌, ◌≢◌, ℕ, Option, Some, None, List, map}
use Rattle.plai_terms.specs.declared.term.Term.{Term}
use Rattle.plai_terms.specs.declared.pred_key.PredKey.{PredKey}
use Rattle.plai_terms.specs.declared.outcome.Outcome.{Outcome}
use Rattle.plai_terms.specs.declared.outcome.Outcome.TheVariants.{Unified}
use Rattle.plai_terms.specs.Subst.{bound_to}
use Rattle.plai_terms.specs.Substitution.{under, raised}
use Rattle.plai_terms.specs.Unification.{Bindings, UnifiesTo}
use Rattle.plai_clauses.specs.declared.clause.Clause.{Clause}
use Rattle.plai_clauses.specs.Program.{ProgramView, clauses_of}
use Rattle.plai_builtins.specs.Meaning.{Means}
use Rattle.plai_sld.specs.declared.item.Item.{Item}
use Rattle.plai_sld.specs.declared.stepped.Stepped.TheVariants.{Moved, NoClause, Clash}
use Rattle.plai_sld.specs.declared.stack.Waiting.{Waiting}
use Rattle.plai_sld.specs.declared.run.Next.{Next}
use Rattle.plai_sld.specs.declared.run.Next.TheVariants.{Stays, Goes}
use Rattle.plai_sld.specs.Runs.{numbered_clause, items_under, behind_head, behind_builtin, LeadsTo}
use Rattle.plai_sld.specs.Stacks.{items_of, on_stack, IsChange}
use Rattle.plai_sld.specs.Steps.{answer_to, AnswersAt}

-- a stack under what waits for it
abbrev pub waiting_under : Bindings → List Waiting → List Item
waiting_under s stack = items_under (bound_to s) (items_of stack)

-- at a clause of the goal's predicate
abbrev pub IsNextAtClause : Clause → PredKey → List Term → Bindings → List Waiting → ℕ → Next → Type 0
IsNextAtClause clause pred args waits stack n (Stays stepped) =
    (stepped ≡ Clash) × (o : Outcome) × UnifiesTo (map (under (raised n)) clause.head) args o × (answer_to o ≡ Clash)
IsNextAtClause clause pred args waits stack n (Goes count top next) =
    IsChange stack count top next × (s : Bindings) × UnifiesTo (map (under (raised n)) clause.head) args (Unified s)
    × (on_stack stack count top next ≡ behind_head pred args (waiting_under waits stack) n clause s)

abbrev pub IsNextWith : Option Clause → PredKey → List Term → Bindings → List Waiting → ℕ → Next → Type 0
IsNextWith None pred args waits stack n next = next ≡ Stays NoClause
IsNextWith (Some clause) pred args waits stack n next = IsNextAtClause clause pred args waits stack n next

-- at a goal of a predicate
abbrev pub IsNextAtCall : ProgramView → PredKey → List Term → Bindings → List Waiting → ℕ → ℕ → Next → Type 0
IsNextAtCall program pred args waits stack n choice next =
    IsNextWith (numbered_clause (clauses_of program pred) choice) pred args waits stack n next

-- at a goal of a builtin
abbrev pub IsNextAtBuiltin : List ℕ → List Term → Bindings → List Waiting → ℕ → Next → Type 0
IsNextAtBuiltin name args waits stack n (Stays stepped) = (stepped ≡ Clash) × Means name args n None
IsNextAtBuiltin name args waits stack n (Goes count top next) =
    IsChange stack count top next × (s : Bindings) × Means name args n (Some s)
    × (on_stack stack count top next ≡ behind_builtin (waiting_under waits stack) n s)

-- at a list of items, with a stack at whose bottom what stays of them is
abbrev pub IsNext : ProgramView → List Item → List Waiting → ℕ → ℕ → Next → Type 0
IsNext program items stack n choice (Stays stepped) = AnswersAt program items n choice stepped × (stepped ≢ Moved)
IsNext program items stack n choice (Goes count top next) =
    IsChange stack count top next × AnswersAt program items n choice Moved × LeadsTo program items n choice (on_stack stack count top next)
