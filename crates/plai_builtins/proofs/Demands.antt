-- What is asked is met in one way.
use Rattle.std.proofs.Common.{◌≡◌, ◌∙◌, Option, None, List, [], ◌∷◌, sym, ap, refl}
use Rattle.std.specs.Prelude.{option_map}
use Rattle.plai_terms.specs.declared.term.Term.{Term}
use Rattle.plai_terms.specs.declared.outcome.Outcome.{Outcome}
use Rattle.plai_terms.specs.Unification.{Bindings, UnifiesTo}
use Rattle.plai_terms.proofs.Outcomes.{outcome_is_one}
use Rattle.plai_terms.proofs.Total.{has_outcome}
use Rattle.plai_builtins.specs.Meaning.{Demand, Never, Test, Solve, Apart, SolveWithin, tested, solved, refuted, kept_to, Meets}

-- what is said of the one outcome is one
said_once : (f : Outcome → Option Bindings) (left right : List Term) (a b : Option Bindings) → (o : Outcome) × UnifiesTo left right o × (a ≡ f o)
    → (o : Outcome) × UnifiesTo left right o × (b ≡ f o) → a ≡ b
said_once f left right a b (o, out, e) (p, also, k) = e ∙ ap f (outcome_is_one left right o p out also) ∙ sym k

pub met_once : (d : Demand) (a b : Option Bindings) → Meets d a → Meets d b → a ≡ b
met_once Never a b m k = m ∙ sym k
met_once (Test t) a b m k = m ∙ sym k
met_once (Solve left right) a b m k = said_once solved left right a b m k
met_once (Apart l r) a b m k = said_once refuted (l ∷ []) (r ∷ []) a b m k
met_once (SolveWithin l r) a b m k = said_once (λ o. option_map (kept_to l) (solved o)) (l ∷ []) (r ∷ []) a b m k

abbrev Said : (Outcome → Option Bindings) → List Term → List Term → Option Bindings → Type 0
Said f left right a = (o : Outcome) × UnifiesTo left right o × (a ≡ f o)

said : (f : Outcome → Option Bindings) (left right : List Term) → (a : Option Bindings) × Said f left right a
said f left right = let (o, out) = has_outcome left right in (f o, (o, out, refl))

pub met : (d : Demand) → (a : Option Bindings) × Meets d a
met Never = (None, refl)
met (Test t) = (tested t, refl)
met (Solve left right) = said solved left right
met (Apart l r) = said refuted (l ∷ []) (r ∷ [])
met (SolveWithin l r) = said (λ o. option_map (kept_to l) (solved o)) (l ∷ []) (r ∷ [])
