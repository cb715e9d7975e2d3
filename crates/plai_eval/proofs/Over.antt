-- The first set that is too large is there exactly where an operation of the evaluation forms one.
use Rattle.std.proofs.Common.{◌≡◌, ◌⊎◌, ◌↔◌, ℕ, suc, true, false, List, [], ◌∷◌, ◌++◌, Option, Some, None, option_map, refl, sym, ap, subst, inl, inr}
use Rattle.std.specs.Prelude.{IsSome}
use Rattle.plai_theory.specs.Words.{given, HasSome}
use Rattle.plai_theory.specs.Domain.{Step, Goal, Do}
use Rattle.plai_theory.specs.Evaluation.{state_behind}
use Rattle.plai_theory.specs.Limits.{IsOverAlong, IsOverAt}
use Rattle.plai_terms.specs.declared.term.Term.{Term}
use Rattle.plai_terms.specs.declared.abs.Abs.{Abs}
use Rattle.plai_domain.specs.declared.action.Action.{Action}
use Rattle.plai_domain.specs.Plain.{StateView, PlainDomain}
use Rattle.plai_domain.specs.Outcomes.{too_large}
use Rattle.plai_clauses.specs.declared.clause.Clause.{Clause}
use Rattle.plai_clauses.specs.declared.clause.Literal.{Literal}
use Rattle.plai_clauses.specs.declared.clause.Target.{Target}
use Rattle.plai_clauses.specs.declared.clause.Target.TheVariants.{Pred, Builtin}
use Rattle.plai_builtins.specs.Actions.{actions_of}
use Rattle.std.specs.Prelude.{length}
use Rattle.plai_eval.specs.Meaning.{Calling, Acting, actions_then, literal_then, steps_of, as_domain, as_limits}
use Rattle.plai_eval.specs.Evaluation.{Source, as_source, first_of, over_at, over_in, over_along, over_of}

of_first : {A : Type 0} (a b : Option A) → IsSome (first_of a b) → IsSome a ⊎ IsSome b
of_first None b e = inr e
of_first (Some a) b e = inl refl

first : {A : Type 0} (a b : Option A) → IsSome a ⊎ IsSome b → IsSome (first_of a b)
first None b (inl e) = cc
first None b (inr e) = e
first (Some a) b e = refl

of_given : {A B : Type 0} (f : A → Option B) (o : Option A) → IsSome (given None f o) → HasSome (λ x. IsSome (f x)) o
of_given f None e = cc
of_given f (Some x) e = e

to_given : {A B : Type 0} (f : A → Option B) (o : Option A) → HasSome (λ x. IsSome (f x)) o → IsSome (given None f o)
to_given f None h = absurd h
to_given f (Some x) h = h

has_map : {A : Type 0} (P Q : A → Type 0) (o : Option A) → ((x : A) → P x → Q x) → HasSome P o → HasSome Q o
has_map P Q None h k = absurd k
has_map P Q (Some x) h k = h x k

of_over_at : (number : ℕ) (sizes : List ℕ) → IsSome (over_at number sizes) → IsSome (too_large sizes)
of_over_at number sizes = at (too_large sizes)
  where
    at : (o : Option ℕ) → IsSome {T = ℕ × ℕ} (option_map (λ place. (number, place)) o) → IsSome o
    at None e = e
    at (Some x) e = refl

to_over_at : (number : ℕ) (sizes : List ℕ) → IsSome (too_large sizes) → IsSome (over_at number sizes)
to_over_at number sizes = at (too_large sizes)
  where
    at : (o : Option ℕ) → IsSome o → IsSome {T = ℕ × ℕ} (option_map (λ place. (number, place)) o)
    at None e = e
    at (Some x) e = refl

either : {A B C D : Type 0} → (A → C) → (B → D) → A ⊎ B → C ⊎ D
either f g (inl a) = inl (f a)
either f g (inr b) = inr (g b)

shift : {A B C D : Type 0} → A ⊎ D → (D → B ⊎ C) → (A ⊎ B) ⊎ C
shift (inl a) k = inl (inl a)
shift {A} {B} {C} (inr d) k = at (k d)
  where
    at : B ⊎ C → (A ⊎ B) ⊎ C
    at (inl b) = inl (inr b)
    at (inr c) = inr c

back_shift : {A B C D : Type 0} → (A ⊎ B) ⊎ C → (B ⊎ C → D) → A ⊎ D
back_shift (inl (inl a)) k = inl a
back_shift (inl (inr b)) k = inr (k (inl b))
back_shift (inr c) k = inr (k (inr c))

split_has : {A B : Type 0} (P : A → Type 0) (Q : B → Type 0) (f : A → Option B) (o : Option A) → HasSome (λ x. P x ⊎ HasSome Q (f x)) o
    → HasSome P o ⊎ HasSome Q (given None f o)
split_has P Q f None h = absurd h
split_has P Q f (Some x) h = h

join_has : {A B : Type 0} (P : A → Type 0) (Q : B → Type 0) (f : A → Option B) (o : Option A) → HasSome P o ⊎ HasSome Q (given None f o)
    → HasSome (λ x. P x ⊎ HasSome Q (f x)) o
join_has P Q f None (inl h) = absurd h
join_has P Q f None (inr h) = absurd h
join_has P Q f (Some x) h = h

actions_then-append : (args : List Term) (xs : List Action) (rest : List (Step Calling Acting)) → actions_then args xs rest ≡ actions_then args xs [] ++ rest
actions_then-append args [] rest = refl
actions_then-append args (x ∷ xs) rest = ap (λ steps. Do (record { args = args; action = x }) ∷ steps) (actions_then-append args xs rest)

-- a literal's steps, and those of the literals behind it
pub literal_then-append : (literal : Literal) (target : Target) (rest : List (Step Calling Acting))
    → literal_then literal target rest ≡ literal_then literal target [] ++ rest
literal_then-append literal (Pred pred) rest = refl
literal_then-append literal Builtin rest = actions_then-append literal.args (actions_of literal.name (length literal.args)) rest

module _ (p : PlainDomain) (s : Source) where
  abbrev Along : List (Step Calling Acting) → StateView → Type 0
  Along steps st = IsOverAlong (as_domain p) (as_limits p) (as_source p s) steps st

  abbrev Behind : List (Step Calling Acting) → StateView → Option StateView
  Behind steps st = state_behind (as_domain p) (as_source p s) steps st

  -- along the steps of one literal
  in_is : (number : ℕ) (steps : List (Step Calling Acting)) (st : StateView)
      → (IsSome (over_in p s number steps st) → Along steps st) × (Along steps st → IsSome (over_in p s number steps st))
  in_is number [] st = ((λ e. (let k : false ≡ true = e in cc)), (λ h. absurd h))
  in_is number (Do x ∷ rest) st = (
    (λ e. either (of_over_at number (p.refine st x.args x.action).sizes)
        (λ k. has_map _ _ (p.refine st x.args x.action).value (λ next. (in_is number rest next).0) (of_given _ (p.refine st x.args x.action).value k))
        (of_first _ _ e)),
    (λ h. first _ _ (either (to_over_at number (p.refine st x.args x.action).sizes)
        (λ k. to_given _ (p.refine st x.args x.action).value (has_map _ _ (p.refine st x.args x.action).value (λ next. (in_is number rest next).1) k)) h)),
  )
  in_is number (Goal l ∷ rest) st = (
    (λ e. either (of_over_at number (p.call st l.args).sizes)
        (λ k. has_map _ _ (s (record { pred = l.pred; call = (p.call st l.args).value }))
        (λ answer m. either (of_over_at number (p.back st l.args answer).sizes)
        (λ n. has_map _ _ (p.back st l.args answer).value (λ next. (in_is number rest next).0) (of_given _ (p.back st l.args answer).value n)) (of_first _ _ m))
        (of_given _ (s (record { pred = l.pred; call = (p.call st l.args).value })) k))
        (of_first _ _ e)),
    (λ h. first _ _ (either (to_over_at number (p.call st l.args).sizes)
        (λ k. to_given _ (s (record { pred = l.pred; call = (p.call st l.args).value }))
        (has_map _ _ (s (record { pred = l.pred; call = (p.call st l.args).value }))
        (λ answer m. first _ _ (either (to_over_at number (p.back st l.args answer).sizes)
        (λ n. to_given _ (p.back st l.args answer).value (has_map _ _ (p.back st l.args answer).value (λ next. (in_is number rest next).1) n)) m)) k)) h)),
  )

  -- in two parts
  of_parts : (xs ys : List (Step Calling Acting)) (st : StateView) → Along (xs ++ ys) st → Along xs st ⊎ HasSome (λ next. Along ys next) (Behind xs st)
  unfolding state_behind
  of_parts [] ys st h = inr h
  of_parts (Do x ∷ rest) ys st h =
      shift h (λ k. split_has (Along rest) (Along ys) (Behind rest) (p.refine st x.args x.action).value
      (has_map _ _ (p.refine st x.args x.action).value (λ next. of_parts rest ys next) k))
  of_parts (Goal l ∷ rest) ys st h =
      shift h (λ k. split_has _ (Along ys) (λ answer. given None (Behind rest) (p.back st l.args answer).value)
      (s (record { pred = l.pred; call = (p.call st l.args).value }))
      (has_map _ _ (s (record { pred = l.pred; call = (p.call st l.args).value })) (λ answer m.
      shift m (λ n. split_has (Along rest) (Along ys) (Behind rest) (p.back st l.args answer).value
      (has_map _ _ (p.back st l.args answer).value (λ next. of_parts rest ys next) n))) k))

  to_parts : (xs ys : List (Step Calling Acting)) (st : StateView) → Along xs st ⊎ HasSome (λ next. Along ys next) (Behind xs st) → Along (xs ++ ys) st
  unfolding state_behind
  to_parts [] ys st (inl h) = absurd h
  to_parts [] ys st (inr h) = h
  to_parts (Do x ∷ rest) ys st h =
      back_shift h (λ k. has_map _ _ (p.refine st x.args x.action).value (λ next. to_parts rest ys next)
      (join_has (Along rest) (Along ys) (Behind rest) (p.refine st x.args x.action).value k))
  to_parts (Goal l ∷ rest) ys st h =
      back_shift h (λ k. has_map _ _ (s (record { pred = l.pred; call = (p.call st l.args).value })) (λ answer m.
      back_shift m (λ n. has_map _ _ (p.back st l.args answer).value (λ next. to_parts rest ys next)
      (join_has (Along rest) (Along ys) (Behind rest) (p.back st l.args answer).value n)))
      (join_has _ (Along ys) (λ answer. given None (Behind rest) (p.back st l.args answer).value)
      (s (record { pred = l.pred; call = (p.call st l.args).value })) k))

  -- along literals
  along_is : (number : ℕ) (literals : List Literal) (st : StateView)
      → (IsSome (over_along p s number literals st) → Along (steps_of literals) st)
      × (Along (steps_of literals) st → IsSome (over_along p s number literals st))
  along_is number [] st = ((λ e. (let k : false ≡ true = e in cc)), (λ h. absurd h))
  along_is number (literal ∷ literals) st =
      let steps : List (Step Calling Acting) = literal_then literal literal.target [] in (
        (λ e. subst (λ xs. Along xs st) (sym (literal_then-append literal literal.target (steps_of literals)))
            (to_parts (literal_then literal literal.target []) (steps_of literals) st
            (either (in_is number (literal_then literal literal.target []) st).0
            (λ k. has_map _ _ (Behind (literal_then literal literal.target []) st) (λ next. (along_is (suc number) literals next).0)
            (of_given _ (Behind (literal_then literal literal.target []) st) k))
            (of_first _ _ e)))),
        (λ h. first _ _
            (either (in_is number (literal_then literal literal.target []) st).1
            (λ k. to_given _ (Behind (literal_then literal literal.target []) st)
            (has_map _ _ (Behind (literal_then literal literal.target []) st) (λ next. (along_is (suc number) literals next).1) k))
            (of_parts (literal_then literal literal.target []) (steps_of literals) st
            (subst (λ xs. Along xs st) (literal_then-append literal literal.target (steps_of literals)) h)))),
      )

  -- Theorem: an evaluation has a first set that is too large exactly where one of its operations forms one.
  pub over_is : (c : Clause) (call : Abs) → IsSome (over_of p s c call) ↔ IsOverAt (as_domain p) (as_limits p) (as_source p s) c call
  unfolding over_of
  over_is c call = (
    (λ e. either (of_over_at 0 (p.enter call c.head c.variables).sizes)
        (λ k. has_map _ _ (p.enter call c.head c.variables).value (λ st. (along_is 1 c.body st).0) (of_given _ (p.enter call c.head c.variables).value k))
        (of_first _ _ e)),
    (λ h. first _ _ (either (to_over_at 0 (p.enter call c.head c.variables).sizes)
        (λ k. to_given _ (p.enter call c.head c.variables).value (has_map _ _ (p.enter call c.head c.variables).value (λ st. (along_is 1 c.body st).1) k)) h)),
  )
