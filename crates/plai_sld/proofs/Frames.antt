-- The invariant of runs: a stack of frames under a closed list of rows.
use Rattle.std.proofs.Common.{◌≡◌, ◌⊎◌, ℕ, ◌<◌, ◌≤◌, true, List, [], ◌∷◌, ◌++◌, map, length, Some}
use Rattle.plai_theory.specs.Words.{IsIn}
use Rattle.plai_theory.specs.Evaluation.{NameOf, name_of}
use Rattle.plai_theory.specs.LeastTable.{Row}
use Rattle.plai_terms.specs.Term.{occurs}
use Rattle.plai_terms.specs.declared.term.Term.{Term}
use Rattle.plai_terms.specs.declared.abs.Abs.{Abs}
use Rattle.plai_terms.specs.declared.pred_key.PredKey.{PredKey}
use Rattle.plai_terms.specs.Substitution.{under, then_also, occurs_in, AreBelow, IsLocal}
use Rattle.plai_domain.specs.Plain.{StateView, PlainDomain}
use Rattle.plai_domain.specs.Soundness.{Speaks, IsFrom}
use Rattle.plai_clauses.specs.declared.clause.Clause.{Clause}
use Rattle.plai_clauses.specs.declared.clause.Literal.{Literal}
use Rattle.plai_clauses.specs.declared.clause.Target.TheVariants as target
use Rattle.plai_clauses.specs.Program.{ProgramView, clauses_of}
use Rattle.plai_eval.specs.Meaning.{as_domain, steps_of}
use Rattle.plai_sld.specs.declared.item.Item.{Item}
use Rattle.plai_sld.specs.declared.item.Item.TheVariants.{Call, Builtin, Mark}
use Rattle.plai_sld.specs.Runs.{RunState, goals_of}
use Rattle.plai_sld.proofs.Going.{IsGoing}

-- A clause's body under way: its literals from here on, its state, and the instance that the state describes. The variables of the instance are those of the
-- arguments at the call, or numbered from the number of that moment on.
pub record IsActive (d : PlainDomain) (g : ProgramView) (rows : List (Row (as_domain d))) (r : Row (as_domain d)) (c : Clause) (lits : List Literal)
    (st : StateView) (i : ℕ → Term) (was : List Term) (from : ℕ) : Type 0 where
  pub row : IsIn r rows
  pub clause : IsIn c (clauses_of g r.name.pred)
  pub part : (x : Literal) → IsIn x lits → IsIn x c.body
  pub called : d.describes r.name.call was
  pub state : Speaks d c.head c.variables st i
  pub going : IsGoing (as_domain d) rows r c (steps_of lits) st
  pub confined : (v w : ℕ) → v < c.variables → occurs w (i v) ≡ true → (occurs_in w was ≡ true) ⊎ (from ≤ w)

-- A lower frame, that waits for its present literal's answer. Its moment is when that literal was called; `from` and `was` are of its own call.
pub record Frame (d : PlainDomain) : Type 0 where
  pub row : Row (as_domain d)
  pub clause : Clause
  pub literal : Literal
  pub callee : PredKey
  pub rest : List Literal
  pub state : StateView
  pub instance : ℕ → Term
  pub since : ℕ → Term
  pub was : List Term
  pub from : ℕ

-- what the frame's clause looks like now
abbrev pub head_now : (d : PlainDomain) → Frame d → List Term
head_now d x = map (under (then_also x.instance x.since)) x.clause.head

abbrev pub items_now : (d : PlainDomain) → Frame d → List Item → List Item
items_now d x below = goals_of (then_also x.instance x.since) x.rest ++ Mark x.row.name.pred x.was (head_now d x) ∷ below

-- How a lower frame stands to the frame above it, which has the name, the arguments as they were and as they are: `at` is the number at the frame's moment,
-- n the number now.
pub record IsWaiting (d : PlainDomain) (x : Frame d) (n at : ℕ) (name : NameOf (as_domain d)) (was now : List Term) : Type 0 where
  pub target_is : x.literal.target ≡ target.Pred x.callee
  pub name_is : name_of (as_domain d) x.callee (d.call x.state x.literal.args).value ≡ name
  pub was_is : was ≡ map (under x.instance) x.literal.args
  pub now_is : now ≡ map (under x.since) was
  pub now_below : AreBelow n now
  pub at_le : at ≤ n
  pub before : IsFrom x.clause.variables at x.instance
  pub below : IsFrom x.clause.variables n (then_also x.instance x.since)
  pub since : IsLocal x.since at was
  pub from_le : x.from ≤ at

-- The stack of lower frames below one with that name and these arguments, and its items.
abbrev pub IsStack : (d : PlainDomain) (g : ProgramView) (rows : List (Row (as_domain d))) (fs : List (Frame d)) (n at : ℕ) (name : NameOf (as_domain d))
    (was now : List Term) (items : List Item) → Type 0
IsStack d g rows [] n at name was now items = items ≡ []
IsStack d g rows (x ∷ fs) n at name was now items =
    (below : List Item) × IsWaiting d x n at name was now
    × IsActive d g rows x.row x.clause (x.literal ∷ x.rest) x.state x.instance x.was x.from
    × (items ≡ items_now d x below)
    × IsStack d g rows fs n x.from x.row.name x.was (head_now d x) below

-- a goal at the front, with its row
pub record IsPending (d : PlainDomain) (g : ProgramView) (rows : List (Row (as_domain d))) (n : ℕ) (p : PredKey) (ts : List Term)
    (rest : List Item) : Type 0 where
  pub row : Row (as_domain d)
  pub call : Abs
  pub frames : List (Frame d)
  pub in_rows : IsIn row rows
  pub name_is : row.name ≡ name_of (as_domain d) p call
  pub describes : d.describes call ts
  pub below : AreBelow n ts
  pub as_many : length ts ≡ p.arity
  pub stack : IsStack d g rows frames n n (name_of (as_domain d) p call) ts ts rest

-- the top frame's body is under way
pub record IsUnderWay (d : PlainDomain) (g : ProgramView) (rows : List (Row (as_domain d))) (n : ℕ) (items : List Item) : Type 0 where
  pub row : Row (as_domain d)
  pub clause : Clause
  pub rest : List Literal
  pub state : StateView
  pub instance : ℕ → Term
  pub was : List Term
  pub from : ℕ
  pub frames : List (Frame d)
  pub lower : List Item
  pub active : IsActive d g rows row clause rest state instance was from
  pub below : IsFrom clause.variables n instance
  pub from_le : from ≤ n
  pub items_are : items ≡ goals_of instance rest ++ Mark row.name.pred was (map (under instance) clause.head) ∷ lower
  pub stack : IsStack d g rows frames n from row.name was (map (under instance) clause.head) lower

-- The invariant: a described goal alone, a body under way, or nothing.
abbrev pub IsGood : (d : PlainDomain) (g : ProgramView) (rows : List (Row (as_domain d))) → RunState → Type 0
IsGood d g rows st =
    ((p : PredKey) × (ts : List Term) × (st.items ≡ Call p ts ∷ []) × IsPending d g rows st.next p ts [])
    ⊎ (IsUnderWay d g rows st.next st.items ⊎ (st.items ≡ []))

-- what a front tells, in the words of the theory's rows
abbrev pub IsCallTold : (d : PlainDomain) → List (Row (as_domain d)) → PredKey → List Term → Type 0
IsCallTold d rows p ts = (r : Row (as_domain d)) × IsIn r rows × (r.name.pred ≡ p) × d.describes r.name.call ts

abbrev pub IsAnswerTold : (d : PlainDomain) → List (Row (as_domain d)) → PredKey → List Term → List Term → Type 0
IsAnswerTold d rows p was now =
    (r : Row (as_domain d)) × IsIn r rows × (r.name.pred ≡ p) × d.describes r.name.call was × (a : Abs) × (r.answer ≡ Some a) × d.describes a now

abbrev pub IsFrontTold : (d : PlainDomain) → List (Row (as_domain d)) → List Item → Type 0
IsFrontTold d rows [] = Unit {0}
IsFrontTold d rows (Call p ts ∷ rest) = IsCallTold d rows p ts
IsFrontTold d rows (Builtin name ts ∷ rest) = Unit {0}
IsFrontTold d rows (Mark p was now ∷ rest) = IsAnswerTold d rows p was now
