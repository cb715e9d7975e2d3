-- Literal by literal, an evaluation gives what the definition says.
use Rattle.std.proofs.Common.{◌≡◌, ℕ, suc, List, [], ◌∷◌, ◌++◌, length, map, Option, Some, None, refl, sym, ap, ◌∙◌}
use Rattle.std.proofs.lemmas.List.{map-append, append-nil}
use Rattle.plai_theory.specs.Words.{given}
use Rattle.plai_theory.specs.Domain.{Step, Name}
use Rattle.plai_theory.specs.Evaluation.{state_behind, calls_along, answer_of, calls_of}
use Rattle.plai_theory.proofs.Walk.{state_behind-append, calls_along-append}
use Rattle.plai_terms.specs.declared.term.Term.{Term}
use Rattle.plai_terms.specs.declared.abs.Abs.{Abs}
use Rattle.plai_terms.specs.declared.pred_key.PredKey.{PredKey}
use Rattle.plai_terms.specs.declared.row_name.RowName.{RowName}
use Rattle.plai_domain.specs.declared.action.Action.{Action}
use Rattle.plai_domain.specs.Plain.{StateView, PlainDomain}
use Rattle.plai_clauses.specs.declared.clause.Clause.{Clause}
use Rattle.plai_clauses.specs.declared.clause.Literal.{Literal}
use Rattle.plai_clauses.specs.declared.clause.Target.{Target}
use Rattle.plai_clauses.specs.declared.clause.Target.TheVariants.{Pred, Builtin}
use Rattle.plai_builtins.specs.Actions.{actions_of}
use Rattle.plai_eval.specs.Meaning.{Calling, Acting, actions_then, literal_then, steps_of, row_name, as_domain}
use Rattle.plai_eval.specs.Evaluation.{Source, Evaluation, as_source, first_of, over_at, over_in, over_along, over_of, evaluation}
use Rattle.plai_eval.specs.Walk.{act, answered, step_at, step, walk, through}
use Rattle.plai_eval.proofs.Over.{literal_then-append}

-- after none no action counts
pub act_none : (p : PlainDomain) (number : ℕ) (args : List Term) (actions : List Action)
    → act p number args actions None ≡ record { state = None; calls = []; over = None }
act_none p number args [] = refl
act_none p number args (action ∷ actions) = refl

-- actions call nothing
pub act_calls : (p : PlainDomain) (number : ℕ) (args : List Term) (actions : List Action) (o : Option StateView) → (act p number args actions o).calls ≡ []
act_calls p number args [] o = refl
act_calls p number args (action ∷ actions) None = refl
act_calls p number args (action ∷ actions) (Some st) = refl

-- after none nothing is called
pub walk_none : (p : PlainDomain) (source : Source) (head : List Term) (number : ℕ) (literals : List Literal)
    → walk p source head number literals None ≡ record { answer = None; calls = []; over = None }
walk_none p source head number [] = refl
walk_none p source head number (literal ∷ literals) = refl

given_some : {A : Type 0} (o : Option A) → o ≡ given None Some o
given_some None = refl
given_some (Some x) = refl

given_empty : {A B : Type 0} (o : Option A) → given (let e : List B = [] in e) (λ x. []) o ≡ []
given_empty None = refl
given_empty (Some x) = refl

given_all_empty : {A B : Type 0} (f : A → List B) (o : Option A) → ((x : A) → f x ≡ []) → given [] f o ≡ []
given_all_empty f None h = refl
given_all_empty f (Some x) h = h x

given_never : {A B : Type 0} (o : Option A) → given (let e : Option B = None in e) (λ x. None) o ≡ None
given_never None = refl
given_never (Some x) = refl

first_none : {A : Type 0} (o : Option A) → first_of o None ≡ o
first_none None = refl
first_none (Some x) = refl

-- behind a literal that leads to none nothing is called
pub walk_stops : (p : PlainDomain) (source : Source) (head : List Term) (k number : ℕ) (literals rest : List Literal) (literal : Literal) (st : StateView)
    → k ≡ number → literals ≡ literal ∷ rest → (step p source number literal st).state ≡ None
    → walk p source head k literals (Some st)
    ≡ record { answer = None; calls = (step p source number literal st).calls; over = (step p source number literal st).over }
walk_stops p source head k number literals rest literal st same is stopped =
    ap (λ m. walk p source head m literals (Some st)) same
    ∙ ap (λ xs. walk p source head number xs (Some st)) is
    ∙ (λ i. record {
      answer = (w i).answer;
      calls = (ap (λ (e : Evaluation). (step p source number literal st).calls ++ e.calls) w ∙ append-nil _) i;
      over = (ap (λ (e : Evaluation). first_of (step p source number literal st).over e.over) w ∙ first_none _) i;
    })
  where
    w : walk p source head (suc number) rest (step p source number literal st).state ≡ record { answer = None; calls = []; over = None }
    w = ap (walk p source head (suc number) rest) stopped ∙ walk_none p source head (suc number) rest

module _ (p : PlainDomain) (source : Source) where
  abbrev Behind : List (Step Calling Acting) → StateView → Option StateView
  Behind steps st = state_behind (as_domain p) (as_source p source) steps st

  abbrev Called : List (Step Calling Acting) → StateView → List RowName
  Called steps st = map row_name (calls_along (as_domain p) (as_source p source) steps st)

  -- a builtin's actions
  act_state : (number : ℕ) (args : List Term) (actions : List Action) (o : Option StateView)
      → (act p number args actions o).state ≡ given None (Behind (actions_then args actions [])) o
  unfolding state_behind
  act_state number args [] o = given_some o
  act_state number args (action ∷ actions) None = refl
  act_state number args (action ∷ actions) (Some st) = act_state number args actions (p.refine st args action).value

  no_calls : (args : List Term) (actions : List Action) (st : StateView) → calls_along (as_domain p) (as_source p source) (actions_then args actions []) st ≡ []
  unfolding calls_along
  no_calls args [] st = refl
  no_calls args (action ∷ actions) st = given_all_empty _ (p.refine st args action).value (λ next. no_calls args actions next)

  act_over : (number : ℕ) (args : List Term) (actions : List Action) (o : Option StateView)
      → (act p number args actions o).over ≡ given None (over_in p source number (actions_then args actions [])) o
  act_over number args [] None = refl
  act_over number args [] (Some st) = refl
  act_over number args (action ∷ actions) None = refl
  act_over number args (action ∷ actions) (Some st) =
      ap (first_of (over_at number (p.refine st args action).sizes)) (act_over number args actions (p.refine st args action).value)

  -- a predicate's answer
  answered_state : (number : ℕ) (args : List Term) (st : StateView) (name : RowName) (o : Option Abs)
      → (answered p number args st name o).state ≡ given None (λ answer. given None (λ next. Some next) (p.back st args answer).value) o
  answered_state number args st name None = refl
  answered_state number args st name (Some answer) = given_some (p.back st args answer).value

  answered_calls : (number : ℕ) (args : List Term) (st : StateView) (name : RowName) (o : Option Abs)
      → (answered p number args st name o).calls ≡ name ∷ map row_name (given [] (λ answer. given [] (λ next. []) (p.back st args answer).value) o)
  answered_calls number args st name None = refl
  answered_calls number args st name (Some answer) =
      ap (λ (xs : List (Name PredKey Abs)). name ∷ map row_name xs) (sym (given_empty (p.back st args answer).value))

  answered_over : (number : ℕ) (args : List Term) (st : StateView) (name : RowName) (o : Option Abs)
      → (answered p number args st name o).over
      ≡ given None (λ answer. first_of (over_at number (p.back st args answer).sizes) (given None (λ next. None) (p.back st args answer).value)) o
  answered_over number args st name None = refl
  answered_over number args st name (Some answer) =
      sym (ap (first_of (over_at number (p.back st args answer).sizes)) (given_never (p.back st args answer).value) ∙ first_none _)

  -- a literal
  step_state : (number : ℕ) (literal : Literal) (target : Target) (st : StateView)
      → (step_at p source number literal target st).state ≡ Behind (literal_then literal target []) st
  unfolding state_behind
  step_state number literal (Pred pred) st =
      answered_state number literal.args st (record { pred = pred; call = (p.call st literal.args).value })
      (source (record { pred = pred; call = (p.call st literal.args).value }))
  step_state number literal Builtin st = act_state number literal.args (actions_of literal.name (length literal.args)) (Some st)

  step_calls : (number : ℕ) (literal : Literal) (target : Target) (st : StateView)
      → (step_at p source number literal target st).calls ≡ Called (literal_then literal target []) st
  unfolding calls_along
  step_calls number literal (Pred pred) st =
      answered_calls number literal.args st (record { pred = pred; call = (p.call st literal.args).value })
      (source (record { pred = pred; call = (p.call st literal.args).value }))
  step_calls number literal Builtin st =
      act_calls p number literal.args (actions_of literal.name (length literal.args)) (Some st)
      ∙ sym (ap (map row_name) (no_calls literal.args (actions_of literal.name (length literal.args)) st))

  step_over : (number : ℕ) (literal : Literal) (target : Target) (st : StateView)
      → (step_at p source number literal target st).over ≡ over_in p source number (literal_then literal target []) st
  step_over number literal (Pred pred) st =
      ap (first_of (over_at number (p.call st literal.args).sizes))
      (answered_over number literal.args st (record { pred = pred; call = (p.call st literal.args).value })
      (source (record { pred = pred; call = (p.call st literal.args).value })))
  step_over number literal Builtin st = act_over number literal.args (actions_of literal.name (length literal.args)) (Some st)

  -- the literals behind
  module _ (head : List Term) where
    abbrev Exit : List Literal → StateView → Option Abs
    Exit literals st = given None (λ end. Some (p.exit end head)) (Behind (steps_of literals) st)

    walk_answer : (number : ℕ) (literals : List Literal) (o : Option StateView) → (walk p source head number literals o).answer ≡ given None (Exit literals) o
    unfolding state_behind
    walk_answer number [] None = refl
    walk_answer number [] (Some st) = refl
    walk_answer number (literal ∷ literals) None = refl
    walk_answer number (literal ∷ literals) (Some st) =
        walk_answer (suc number) literals (step p source number literal st).state
        ∙ ap (given None (Exit literals)) (step_state number literal literal.target st)
        ∙ sym (ap (given None (λ end. Some (p.exit end head)))
        (ap (λ steps. Behind steps st) (literal_then-append literal literal.target (steps_of literals))
        ∙ state_behind-append (as_domain p) (as_source p source) (literal_then literal literal.target []) (steps_of literals) st)
        ∙ nested (Behind (literal_then literal literal.target []) st))
      where
        nested : (o : Option StateView) → given None (λ end. Some (p.exit end head)) (given None (λ next. Behind (steps_of literals) next) o)
            ≡ given None (Exit literals) o
        nested None = refl
        nested (Some next) = refl

    walk_calls : (number : ℕ) (literals : List Literal) (o : Option StateView)
        → (walk p source head number literals o).calls ≡ given [] (Called (steps_of literals)) o
    unfolding calls_along
    walk_calls number [] None = refl
    walk_calls number [] (Some st) = refl
    walk_calls number (literal ∷ literals) None = refl
    walk_calls number (literal ∷ literals) (Some st) =
        ap (λ xs. xs ++ (walk p source head (suc number) literals (step p source number literal st).state).calls) (step_calls number literal literal.target st)
        ∙ ap (λ xs. Called (literal_then literal literal.target []) st ++ xs)
        (walk_calls (suc number) literals (step p source number literal st).state
        ∙ ap (given [] (Called (steps_of literals))) (step_state number literal literal.target st))
        ∙ sym (ap (map row_name)
        (ap (λ steps. calls_along (as_domain p) (as_source p source) steps st) (literal_then-append literal literal.target (steps_of literals))
        ∙ calls_along-append (as_domain p) (as_source p source) (literal_then literal literal.target []) (steps_of literals) st)
        ∙ mapped (calls_along (as_domain p) (as_source p source) (literal_then literal literal.target []) st)
        (Behind (literal_then literal literal.target []) st))
      where
        mapped : (xs : List (Name PredKey Abs)) (o : Option StateView)
            → map row_name (xs ++ given [] (λ next. calls_along (as_domain p) (as_source p source) (steps_of literals) next) o)
            ≡ map row_name xs ++ given [] (Called (steps_of literals)) o
        mapped xs None = map-append row_name xs []
        mapped xs (Some next) = map-append row_name xs (calls_along (as_domain p) (as_source p source) (steps_of literals) next)

    walk_over : (number : ℕ) (literals : List Literal) (o : Option StateView)
        → (walk p source head number literals o).over ≡ given None (over_along p source number literals) o
    walk_over number [] None = refl
    walk_over number [] (Some st) = refl
    walk_over number (literal ∷ literals) None = refl
    walk_over number (literal ∷ literals) (Some st) =
        ap (λ o. first_of o (walk p source head (suc number) literals (step p source number literal st).state).over)
        (step_over number literal literal.target st)
        ∙ ap (first_of (over_in p source number (literal_then literal literal.target []) st))
        (walk_over (suc number) literals (step p source number literal st).state
        ∙ ap (given None (over_along p source (suc number) literals)) (step_state number literal literal.target st))

  -- Theorem: literal by literal, the evaluation of a clause gives what the definition says.
  pub through_answer : (clause : Clause) (call : Abs) → (through p source clause call).answer ≡ (evaluation p source clause call).answer
  unfolding answer_of
  through_answer clause call = walk_answer clause.head 1 clause.body (p.enter call clause.head clause.variables).value

  pub through_calls : (clause : Clause) (call : Abs) → (through p source clause call).calls ≡ (evaluation p source clause call).calls
  unfolding calls_of
  through_calls clause call =
      walk_calls clause.head 1 clause.body (p.enter call clause.head clause.variables).value
      ∙ mapped (p.enter call clause.head clause.variables).value
    where
      mapped : (o : Option StateView) → given [] (Called (steps_of clause.body)) o
          ≡ map row_name (given [] (λ st. calls_along (as_domain p) (as_source p source) (steps_of clause.body) st) o)
      mapped None = refl
      mapped (Some st) = refl

  pub through_over : (clause : Clause) (call : Abs) → (through p source clause call).over ≡ (evaluation p source clause call).over
  unfolding over_of
  through_over clause call =
      ap (first_of (over_at 0 (p.enter call clause.head clause.variables).sizes))
      (walk_over clause.head 1 clause.body (p.enter call clause.head clause.variables).value)
