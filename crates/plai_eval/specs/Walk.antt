-- The evaluation of a clause literal by literal (Muthukumar and Hermenegildo 1992): the state behind each literal, what it
-- calls, and the first of its sets that is too large. After none nothing more is called.
use Rattle.std.specs.Prelude.{ℕ, suc, List, [], ◌∷◌, ◌++◌, length, Option, Some, None}
use Rattle.plai_terms.specs.declared.term.Term.{Term}
use Rattle.plai_terms.specs.declared.abs.Abs.{Abs}
use Rattle.plai_terms.specs.declared.pred_key.PredKey.{PredKey}
use Rattle.plai_terms.specs.declared.row_name.RowName.{RowName}
use Rattle.plai_domain.specs.declared.action.Action.{Action}
use Rattle.plai_domain.specs.Plain.{StateView, PlainDomain}
use Rattle.plai_clauses.specs.declared.clause.Clause.{Clause}
use Rattle.plai_clauses.specs.declared.clause.Literal.{Literal}
use Rattle.plai_clauses.specs.declared.clause.Target.{Target}
use Rattle.plai_clauses.specs.declared.clause.Target.TheVariants.{Pred, Builtin}
use Rattle.plai_builtins.specs.Actions.{actions_of}
use Rattle.plai_eval.specs.Evaluation.{Source, Evaluation, first_of, over_at}

-- of one literal: the state behind it or none, the names that it calls, and the first set that is too large
pub record Stepped : Type 0 where
  pub state : Option StateView
  pub calls : List RowName
  pub over : Option (ℕ × ℕ)

abbrev pub nothing_more : Option StateView → Stepped
nothing_more state = record { state = state; calls = []; over = None }

-- the actions of a builtin in turn
abbrev pub act : PlainDomain → ℕ → List Term → List Action → Option StateView → Stepped
act p number args [] state = nothing_more state
act p number args (action ∷ actions) None = nothing_more None
act p number args (action ∷ actions) (Some state) =
    let refined = p.refine state args action in
    let rest = act p number args actions refined.value in
    record { state = rest.state; calls = []; over = first_of (over_at number refined.sizes) rest.over }

-- a literal of a predicate, where the row called has this answer
abbrev pub answered : PlainDomain → ℕ → List Term → StateView → RowName → Option Abs → Stepped
answered p number args state name None = record { state = None; calls = name ∷ []; over = None }
answered p number args state name (Some answer) =
    let back = p.back state args answer in
    record { state = back.value; calls = name ∷ []; over = over_at number back.sizes }

-- a literal of a predicate
abbrev pub call_of : PlainDomain → Source → ℕ → PredKey → List Term → StateView → Stepped
call_of p source number pred args state =
    let called = p.call state args in
    let name : RowName = record { pred = pred; call = called.value } in
    let rest = answered p number args state name (source name) in
    record { state = rest.state; calls = rest.calls; over = first_of (over_at number called.sizes) rest.over }

abbrev pub step_at : PlainDomain → Source → ℕ → Literal → Target → StateView → Stepped
step_at p source number literal (Pred pred) state = call_of p source number pred literal.args state
step_at p source number literal Builtin state =
    act p number literal.args (actions_of literal.name (length literal.args)) (Some state)

-- the literal of this number
abbrev pub step : PlainDomain → Source → ℕ → Literal → StateView → Stepped
step p source number literal state = step_at p source number literal literal.target state

-- the literals, the first of which has this number, and the answer behind them
abbrev pub walk : PlainDomain → Source → List Term → ℕ → List Literal → Option StateView → Evaluation
walk p source head number [] None = record { answer = None; calls = []; over = None }
walk p source head number [] (Some state) = record { answer = Some (p.exit state head); calls = []; over = None }
walk p source head number (literal ∷ literals) None = record { answer = None; calls = []; over = None }
walk p source head number (literal ∷ literals) (Some state) =
    let stepped = step p source number literal state in
    let rest = walk p source head (suc number) literals stepped.state in
    record { answer = rest.answer; calls = stepped.calls ++ rest.calls; over = first_of stepped.over rest.over }

-- a clause at a call
abbrev pub through : PlainDomain → Source → Clause → Abs → Evaluation
through p source clause call =
    let entered = p.enter call clause.head clause.variables in
    let rest = walk p source clause.head 1 clause.body entered.value in
    record { answer = rest.answer; calls = rest.calls; over = first_of (over_at 0 entered.sizes) rest.over }
