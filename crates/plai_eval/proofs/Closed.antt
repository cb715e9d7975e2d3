-- Evaluation stays among the states of its clause and the values of a lawful domain.
use Rattle.std.proofs.Common.{◌≡◌, ℕ, List, [], ◌∷◌, length, Option, Some, None, All, refl, sym, ap, ◌∙◌, subst, inl, inr}
use Rattle.std.specs.List.{AllByRecursion}
use Rattle.std.proofs.lemmas.List.Elements.{All-from_recursion}
use Rattle.plai_theory.specs.Words.{IsIn, UpTo}
use Rattle.plai_terms.specs.declared.term.Term.{Term}
use Rattle.plai_terms.specs.declared.abs.Abs.{Abs}
use Rattle.plai_terms.specs.declared.pred_key.PredKey.{PredKey}
use Rattle.plai_terms.specs.declared.row_name.RowName.{RowName}
use Rattle.plai_domain.specs.declared.action.Action.{Action}
use Rattle.plai_domain.specs.Plain.{StateView, PlainDomain}
use Rattle.plai_domain.specs.Instances.{acts_within}
use Rattle.plai_domain.specs.Conditions.{IsValue, IsState, IsHead, AreArguments}
use Rattle.plai_domain.specs.Laws.{IsLawful}
use Rattle.plai_clauses.specs.declared.clause.Clause.{Clause}
use Rattle.plai_clauses.specs.declared.clause.Literal.{Literal}
use Rattle.plai_clauses.specs.declared.clause.Target.{Target}
use Rattle.plai_clauses.specs.declared.clause.Target.TheVariants.{Pred, Builtin}
use Rattle.plai_clauses.specs.WellFormed.{IsTargetOf, IsLiteral, IsWellFormedClause}
use Rattle.plai_builtins.specs.Actions.{actions_of}
use Rattle.plai_builtins.proofs.Tables.{actions_within}
use Rattle.plai_eval.specs.Evaluation.{Source}
use Rattle.plai_eval.specs.Walk.{act, answered, call_of, step_at, step}
use Rattle.plai_eval.specs.Answering.{AnswersFit}

no_some : {A : Type 0} (x : A) → ◌≡◌ {A = Option A} None (Some x) → ⊥
no_some x e = cc

by_recursion : {A : Type 0} (P : A → Type 0) (xs : List A) → ((x : A) → IsIn x xs → P x) → AllByRecursion P xs
by_recursion P [] h = tt
by_recursion P (x ∷ xs) h = (h x (inl refl), by_recursion P xs (λ y i. h y (inr i)))

-- what holds of each member holds at each place
pub all_in : {A : Type 0} (P : A → Type 0) (xs : List A) → ((x : A) → IsIn x xs → P x) → All P xs
all_in P xs h = All-from_recursion P xs (by_recursion P xs h)

pub same_up_to : {A : Type 0} (R : A → A → Type 0) (o : Option A) (x : A) → UpTo R o o → o ≡ Some x → R x x
same_up_to R o x h e = subst (λ z. UpTo R z z) e h

-- a builtin's actions have numbers of its arguments
pub actions_fit : (name : List ℕ) (arity : ℕ) (actions : List Action) → actions ≡ actions_of name arity → All (acts_within arity) actions
actions_fit name arity actions e = subst (λ xs. All (acts_within arity) xs) (sym e)
    (all_in (acts_within arity) (actions_of name arity) (λ x i. actions_within name arity x i))

-- the literals of a well formed clause
pub literals_of : (clause : Clause) → IsWellFormedClause clause → (head : List Term) (body : List Literal) → head ≡ clause.head → body ≡ clause.body
    → All (IsLiteral (length head) clause.variables) body
literals_of clause good head body e f =
    subst (λ h. All (IsLiteral (length h) clause.variables) body) (sym e)
    (subst (λ b. All (IsLiteral (length clause.head) clause.variables) b) (sym f)
    (all_in (IsLiteral (length clause.head) clause.variables) clause.body good.body))

module _ (p : PlainDomain) (laws : IsLawful p) (n v : ℕ) where
  abbrev There : StateView → Type 0
  There s = p.Below n v s s

  -- a clause's state has the clause's numbers
  pub is_state : (s : StateView) → There s → IsState p s
  is_state s h =
      subst (λ k. p.Below k s.variables s s) (sym (laws.shaped.arity n v s s h))
      (subst (λ k. p.Below n k s s) (sym (laws.shaped.variables n v s s h)) h)

  pub in_numbers : (P : ℕ → ℕ → Type 0) (s : StateView) → There s → P n v → P s.arity s.variables
  in_numbers P s h k = subst (λ m. P m s.variables) (sym (laws.shaped.arity n v s s h)) (subst (λ m. P n m) (sym (laws.shaped.variables n v s s h)) k)

  module _ (args : List Term) (good : AreArguments n v args) where
    pub refined_there : (action : Action) (s next : StateView) → acts_within (length args) action → There s → (p.refine s args action).value ≡ Some next
        → There next
    refined_there action s next w h e = same_up_to (p.Below n v) _ next (laws.monotone.refine n v args action s s good w h) e

    act_there : (number : ℕ) (actions : List Action) → ((x : Action) → IsIn x actions → acts_within (length args) x) → (o : Option StateView)
        → UpTo (p.Below n v) o o
        → (next : StateView) → (act p number args actions o).state ≡ Some next → There next
    act_there number [] w o h next e = same_up_to (p.Below n v) o next h e
    act_there number (x ∷ actions) w None h next e = absurd (no_some next e)
    act_there number (x ∷ actions) w (Some s) h next e =
        act_there number actions (λ y i. w y (inr i)) (p.refine s args x).value (laws.monotone.refine n v args x s s good (w x (inl refl)) h) next e

    pub called_value : (s : StateView) → There s → IsValue p (length args) (p.call s args).value
    called_value s h = laws.monotone.call n v args s s good h

    -- an answer for the call has as many arguments
    pub answer_fits : (source : Source) → AnswersFit p source → (pred : PredKey) → pred.arity ≡ length args → (s : StateView) → There s
        → (same : PredKey) (call answer : Abs)
        → same ≡ pred → call ≡ (p.call s args).value → source (record { pred = same; call = call }) ≡ Some answer → IsValue p (length args) answer
    answer_fits source fits pred arity s h same call answer eq is told =
        let name : RowName = record { pred = same; call = call } in
        let its : same.arity ≡ length args = ap (λ (k : PredKey). k.arity) eq ∙ arity in
        let value : IsValue p same.arity call = subst (λ k. IsValue p k call) (sym its) (subst (IsValue p (length args)) (sym is) (called_value s h)) in
        subst (λ k. IsValue p k answer) its (fits.fit name answer value told)

    answered_there : (number : ℕ) (s : StateView) (name : RowName) (o : Option Abs) → There s → ((a : Abs) → o ≡ Some a → IsValue p (length args) a)
        → (next : StateView) → (answered p number args s name o).state ≡ Some next → There next
    answered_there number s name None h fit next e = absurd (no_some next e)
    answered_there number s name (Some a) h fit next e = same_up_to (p.Below n v) _ next (laws.monotone.back n v args s s a a good h (fit a refl)) e

    pub call_there : (source : Source) → AnswersFit p source → (number : ℕ) (pred : PredKey) → pred.arity ≡ length args → (s next : StateView) → There s
        → (call_of p source number pred args s).state ≡ Some next → There next
    call_there source fits number pred arity s next h e =
        let name : RowName = record { pred = pred; call = (p.call s args).value } in
        answered_there number s name (source name) h (λ a told. answer_fits source fits pred arity s h pred (p.call s args).value a refl refl told) next e

  -- a literal leads from a state of the clause to one
  pub step_there : (source : Source) → AnswersFit p source → (number : ℕ) (literal : Literal) → IsLiteral n v literal → (s next : StateView) → There s
      → (step p source number literal s).state ≡ Some next → There next
  step_there source fits number literal good s next h e = at literal.target good.target e
    where
      at : (t : Target) → IsTargetOf literal.name (length literal.args) t → (step_at p source number literal t s).state ≡ Some next → There next
      at (Pred pred) (no', is, arity) e = call_there literal.args good.args source fits number pred arity s next h e
      at Builtin yes' e =
          act_there literal.args good.args number (actions_of literal.name (length literal.args))
          (λ x i. actions_within literal.name (length literal.args) x i) (Some s) h next e

  -- a clause begins in one of its states
  pub entered_there : (head : List Term) (call : Abs) (s : StateView) → IsHead n v head → IsValue p n call → (p.enter call head v).value ≡ Some s → There s
  entered_there head call s good h e = same_up_to (p.Below n v) _ s (laws.monotone.enter n v head call call good h) e
