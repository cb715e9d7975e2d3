-- Runs: SLD resolution that takes the leftmost goal (Lloyd, Foundations of Logic Programming, 1987, sections 7 and 9), with
-- the occurs check. A mark behind the body of a clause comes to the front when the goal is solved.
use Rattle.std.specs.Prelude.{◌≡◌, ℕ, zero, suc, ◌+◌, Option, Some, None, List, [], ◌∷◌, ◌++◌, map}
use Rattle.plai_theory.specs.Words.{item}
use Rattle.plai_terms.specs.declared.term.Term.{Term}
use Rattle.plai_terms.specs.declared.pred_key.PredKey.{PredKey}
use Rattle.plai_terms.specs.declared.outcome.Outcome.TheVariants.{Unified}
use Rattle.plai_terms.specs.Subst.{bound_to}
use Rattle.plai_terms.specs.Substitution.{under, raised}
use Rattle.plai_terms.specs.Unification.{Bindings, UnifiesTo}
use Rattle.plai_clauses.specs.declared.clause.Clause.{Clause}
use Rattle.plai_clauses.specs.declared.clause.Literal.{Literal}
use Rattle.plai_clauses.specs.declared.clause.Target.{Target}
use Rattle.plai_clauses.specs.declared.clause.Target.TheVariants as target
use Rattle.plai_clauses.specs.Program.{ProgramView, clauses_of}
use Rattle.plai_builtins.specs.Meaning.{Means}
use Rattle.plai_sld.specs.declared.item.Item.{Item}
use Rattle.plai_sld.specs.declared.item.Item.TheVariants.{Call, Builtin, Mark}
use Rattle.plai_sld.specs.Limits.{limit_in, past}

-- goals and marks, and a number from which on variables are new
pub record RunState : Type 0 where
  pub items : List Item
  pub next : ℕ

-- an item under a substitution; a mark's arguments as they were stay
abbrev pub item_under : (ℕ → Term) → Item → Item
item_under f (Call pred args) = Call pred (map (under f) args)
item_under f (Builtin name args) = Builtin name (map (under f) args)
item_under f (Mark pred was now) = Mark pred was (map (under f) now)

abbrev pub items_under : (ℕ → Term) → List Item → List Item
items_under f = map (item_under f)

-- the goal that a literal is in an instance of its clause
abbrev pub goal_at : (ℕ → Term) → Literal → Target → Item
goal_at i literal (target.Pred pred) = Call pred (map (under i) literal.args)
goal_at i literal target.Builtin = Builtin literal.name (map (under i) literal.args)

abbrev pub goal_of : (ℕ → Term) → Literal → Item
goal_of i literal = goal_at i literal literal.target

-- of a body
abbrev pub goals_of : (ℕ → Term) → List Literal → List Item
goals_of i = map (goal_of i)

-- a goal alone
abbrev pub start_of : PredKey → List Term → RunState
start_of pred args = record { items = Call pred args ∷ []; next = limit_in args }

-- the clause of this number, from 1
abbrev pub numbered_clause : List Clause → ℕ → Option Clause
numbered_clause clauses zero = None
numbered_clause clauses (suc i) = item clauses i

-- Behind a goal of a predicate: the renamed body of the clause, a mark for the goal, and the rest, under the substitution.
abbrev pub behind_head : PredKey → List Term → List Item → ℕ → Clause → Bindings → RunState
behind_head pred args rest n clause s =
    record {
      items = items_under (bound_to s) (goals_of (raised n) clause.body ++ Mark pred args args ∷ rest);
      next = n + clause.variables;
    }

-- behind a goal of a builtin: the rest, under the substitution
abbrev pub behind_builtin : List Item → ℕ → Bindings → RunState
behind_builtin rest n s = record { items = items_under (bound_to s) rest; next = past n s }

-- The step from a list and a number with this choice. A mark is taken away. A predicate's goal is unified with the head of
-- its clause of that number, renamed apart, the head on the left. A builtin's goal gives way to its meaning.
abbrev pub LeadsTo : ProgramView → List Item → ℕ → ℕ → RunState → Type 0
LeadsTo program [] n choice after = ⊥
LeadsTo program (Mark pred was now ∷ rest) n choice after = after ≡ record { items = rest; next = n }
LeadsTo program (Call pred args ∷ rest) n choice after =
    (clause : Clause) × (numbered_clause (clauses_of program pred) choice ≡ Some clause)
    × (s : Bindings) × UnifiesTo (map (under (raised n)) clause.head) args (Unified s)
    × (after ≡ behind_head pred args rest n clause s)
LeadsTo program (Builtin name args ∷ rest) n choice after =
    (s : Bindings) × Means name args n (Some s) × (after ≡ behind_builtin rest n s)

abbrev pub IsStep : ProgramView → RunState → ℕ → RunState → Type 0
IsStep program before choice after = LeadsTo program before.items before.next choice after

-- the choices lead from the first state to the last
abbrev pub IsRun : ProgramView → RunState → List ℕ → RunState → Type 0
IsRun program first [] last = first ≡ last
IsRun program first (choice ∷ choices) last =
    (middle : RunState) × IsStep program first choice middle × IsRun program middle choices last
