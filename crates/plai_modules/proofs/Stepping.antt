-- Loops that take steps of which any may be refused.
use Rattle.std.proofs.Common.{◌≡◌, ℕ, ◌+◌, ◌<◌, ◌≤◌, suc, List, ◌∷◌, length, get_or, drop, ap, sym, ◌∙◌}
use Rattle.std.proofs.Math.Seq.{drop-cons}
use Rattle.std.proofs.Math.Numerals.{add-one}
use Rattle.std.proofs.lemmas.List.{drop_all}
use Rattle.std.specs.Prelude.{Result, Ok, Err}
use Rattle.plai_sources.specs.declared.cause.ItemsFail.{ItemsFail}
use Rattle.plai_sources.specs.declared.cause.ItemsFail.TheVariants as items_fail
use Rattle.plai_sources.specs.Items as source
use Rattle.plai_sources.specs.Answering.{AnswersFile}
use Rattle.plai_modules.specs.Steps.{and_then, steps}
use Rattle.plai_modules.specs.Outcomes.{Leaves}

-- the rest of a list, from an item on
pub rest_of : {B : Type 0} → (xs : List B) (i : ℕ) (x : B) → i < length xs → x ≡ get_or xs i x → drop i xs ≡ x ∷ drop (i + 1) xs
rest_of xs i x h e = drop-cons xs i x h ∙ ap (λ y. y ∷ drop (suc i) xs) (sym e) ∙ ap (λ n. x ∷ drop n xs) (sym (add-one i))

module _ {A B : Type 0} (step : A → B → Result A source.Refusal) (first : A) (xs : List B) (i : ℕ) (before : A)
    (held : steps step first xs ≡ steps step before (drop i xs)) where
  pub step_more : (x : B) (behind : A) → i < length xs → x ≡ get_or xs i x → step before x ≡ Ok behind
      → steps step first xs ≡ steps step behind (drop (i + 1) xs)
  step_more x behind h e s =
      held ∙ ap (steps step before) (rest_of xs i x h e) ∙ ap (λ r. and_then r (λ b. steps step b (drop (i + 1) xs))) s

  pub step_fails : (x : B) (behind : A) (fail : ItemsFail) → i < length xs → x ≡ get_or xs i x → Leaves (step before x) behind (Err fail)
      → AnswersFile (steps step first xs) (Err fail)
  step_fails x behind items_fail.Memory h e s = tt
  step_fails x behind (items_fail.Refused term cause) h e s =
      held ∙ ap (steps step before) (rest_of xs i x h e) ∙ ap (λ r. and_then r (λ b. steps step b (drop (i + 1) xs))) s

  pub step_all : length xs ≤ i → steps step first xs ≡ Ok before
  step_all h = held ∙ ap (steps step before) (drop_all i xs h)
