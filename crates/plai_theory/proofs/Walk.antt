-- What a loop over a clause's literals needs, and one that notes entries at the end of a log.
use Rattle.std.proofs.Common.{◌≡◌, ℕ, List, [], ◌∷◌, ◌++◌, Option, Some, None, sym, refl, ap, ◌∙◌}
use Rattle.plai_theory.specs.Words.{given}
use Rattle.plai_theory.specs.Domain.{Step, Goal, Do, Domain, Program}
use Rattle.plai_theory.specs.Evaluation.{Source, name_of, state_behind, calls_along}
use Rattle.plai_theory.specs.LegalWork.{Work, after, after_all, IsLegal, IsLegalLog, LogEntry}

given_given : {A B C : Type 0} (z : C) (o : Option A) (f : A → Option B) (k : B → C) → given z k (given None f o) ≡ given z (λ x. given z k (f x)) o
given_given z None f k = refl
given_given z (Some x) f k = refl

given_append : {A B C : Type 0} (o : Option A) (f : A → List C) (k : A → Option B) (m : B → List C)
    → given [] (λ x. f x ++ given [] m (k x)) o ≡ given [] f o ++ given [] m (given None k o)
given_append None f k m = refl
given_append (Some x) f k m = refl

given_cong : {A B : Type 0} (z : B) (o : Option A) (f k : A → B) → ((x : A) → f x ≡ k x) → given z f o ≡ given z k o
given_cong z None f k h = refl
given_cong z (Some x) f k h = h x

module _ (d : Domain) (s : Source d) where
  -- a walk in two parts
  pub state_behind-append : (xs ys : List (Step d.Literal d.Action)) (st : d.State)
      → state_behind d s (xs ++ ys) st ≡ given None (λ next. state_behind d s ys next) (state_behind d s xs st)
  unfolding state_behind
  state_behind-append [] ys st = refl
  state_behind-append (Do x ∷ xs) ys st =
      given_cong None (d.refine x st) _ _ (λ next. state_behind-append xs ys next)
      ∙ sym (given_given None (d.refine x st) (λ next. state_behind d s xs next) (λ next. state_behind d s ys next))
  state_behind-append (Goal l ∷ xs) ys st =
      given_cong None (s (d.callee l) (d.call l st)) _ _ (λ a.
      given_cong None (d.back l st a) _ _ (λ next. state_behind-append xs ys next)
      ∙ sym (given_given None (d.back l st a) (λ next. state_behind d s xs next) (λ next. state_behind d s ys next)))
      ∙ sym (given_given None (s (d.callee l) (d.call l st)) (λ a. given None (λ next. state_behind d s xs next) (d.back l st a))
      (λ next. state_behind d s ys next))

  pub calls_along-append : (xs ys : List (Step d.Literal d.Action)) (st : d.State)
      → calls_along d s (xs ++ ys) st ≡ calls_along d s xs st ++ given [] (λ next. calls_along d s ys next) (state_behind d s xs st)
  unfolding calls_along state_behind
  calls_along-append [] ys st = refl
  calls_along-append (Do x ∷ xs) ys st =
      given_cong [] (d.refine x st) _ _ (λ next. calls_along-append xs ys next)
      ∙ given_append (d.refine x st) (λ next. calls_along d s xs next) (λ next. state_behind d s xs next) (λ next. calls_along d s ys next)
  calls_along-append (Goal l ∷ xs) ys st =
      ap (λ ns. name_of d (d.callee l) (d.call l st) ∷ ns)
      (given_cong [] (s (d.callee l) (d.call l st)) _ _ (λ a.
      given_cong [] (d.back l st a) _ _ (λ next. calls_along-append xs ys next)
      ∙ given_append (d.back l st a) (λ next. calls_along d s xs next) (λ next. state_behind d s xs next) (λ next. calls_along d s ys next))
      ∙ given_append (s (d.callee l) (d.call l st)) (λ a. given [] (λ next. calls_along d s xs next) (d.back l st a))
      (λ a. given None (λ next. state_behind d s xs next) (d.back l st a)) (λ next. calls_along d s ys next))

module _ (d : Domain) (g : Program d) (limit : ℕ) where
  -- one more entry at the end of a log
  pub after_push : (w : Work d) (es : List (LogEntry d)) (e : LogEntry d) → after_all d g w (es ++ e ∷ []) ≡ after d g (after_all d g w es) e
  after_push w [] e = refl
  after_push w (b ∷ es) e = after_push (after d g w b) es e

  pub legal_push : (w : Work d) (es : List (LogEntry d)) (e : LogEntry d) → IsLegalLog d g limit w es → IsLegal d g limit (after_all d g w es) e
      → IsLegalLog d g limit w (es ++ e ∷ [])
  legal_push w [] e legal h = (h, tt)
  legal_push w (b ∷ es) e legal h = (legal.0, legal_push (after d g w b) es e legal.1 h)
