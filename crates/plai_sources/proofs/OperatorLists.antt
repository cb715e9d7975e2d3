-- Operators added one by one.
use Rattle.std.proofs.Common.{◌≡◌, ◌∙◌, ℕ, ◌+◌, ◌<◌, suc, Option, Some, None, Result, Err, List, [], ◌∷◌, ◌++◌, length, take, drop, get_or, take-append-drop}
use Rattle.std.proofs.Common.{drop-cons, refl, sym, ap, subst}
use Rattle.std.proofs.lemmas.List.{take_more}
use Rattle.std.specs.Prelude.{option_and_then}
use Rattle.plai_reader.specs.declared.operator.OpKind.{OpKind}
use Rattle.plai_reader.specs.declared.fail.OpFail.{OpFail}
use Rattle.plai_reader.specs.Operators.{Table, refusal, with_operator}
use Rattle.plai_sources.specs.declared.stop.Stop.{Stop}
use Rattle.plai_sources.specs.declared.stop.Stop.TheVariants.{Memory, Unfit}
use Rattle.plai_sources.specs.Operators.{unless_refused, with_each}
use Rattle.plai_sources.specs.Answering.{Changes}

shift : (r : Option OpFail) (o : Option Table) (f : Table → Option Table) → unless_refused r (option_and_then f o) ≡ option_and_then f (unless_refused r o)
shift None o f = refl
shift (Some fail) o f = refl

stays : (r : Option OpFail) (t : Table) (o : Option Table) → unless_refused r (Some t) ≡ None → unless_refused r o ≡ None
stays None t o e = absurd cc
stays (Some fail) t o e = refl

module _ (p : ℕ) (k : OpKind) where
  with_each-append : (xs ys : List (List ℕ)) (t : Table) → with_each t p k (xs ++ ys) ≡ option_and_then (λ u. with_each u p k ys) (with_each t p k xs)
  with_each-append [] ys t = refl
  with_each-append (x ∷ xs) ys t =
      ap (unless_refused (refusal t p k x)) (with_each-append xs ys (with_operator t p k x))
      ∙ shift (refusal t p k x) (with_each (with_operator t p k x) p k xs) (λ u. with_each u p k ys)

  module _ (t u : Table) (names : List (List ℕ)) (i : ℕ) (x : List ℕ) where
    -- one more operator is added
    pub one_added : (new : Table) → i < length names → x ≡ get_or names i x → with_each t p k (take i names) ≡ Some u → with_each u p k (x ∷ []) ≡ Some new
        → with_each t p k (take (i + 1) names) ≡ Some new
    one_added new h e all one =
        ap (with_each t p k) (take_more names i x h) ∙ with_each-append (take i names) (get_or names i x ∷ []) t
        ∙ ap (option_and_then (λ v. with_each v p k (get_or names i x ∷ []))) all
        ∙ ap (λ n. with_each u p k (n ∷ [])) (sym e) ∙ one

    none_added : i < length names → x ≡ get_or names i x → with_each t p k (take i names) ≡ Some u → with_each u p k (x ∷ []) ≡ None
        → with_each t p k names ≡ None
    none_added h e all one =
        ap (with_each t p k) (sym (take-append-drop i names)) ∙ with_each-append (take i names) (drop i names) t
        ∙ ap (option_and_then (λ v. with_each v p k (drop i names))) all
        ∙ ap (with_each u p k) (drop-cons names i x h ∙ ap (λ n. n ∷ drop (suc i) names) (sym e))
        ∙ stays (refusal u p k x) (with_operator u p k x) (with_each (with_operator u p k x) p k (drop (suc i) names)) one

    -- one operator is refused
    pub one_refused : (new : Table) (stop : Stop) (r : Result (Unit {0}) Stop) → i < length names → x ≡ get_or names i x
        → with_each t p k (take i names) ≡ Some u
        → Changes (with_each u p k (x ∷ [])) new (Err stop) → (y : Stop) × (r ≡ Err y) × (y ≡ stop) → Changes (with_each t p k names) new r
    one_refused new Memory r h e all one q = let same : r ≡ Err Memory = q.1 ∙ ap (λ s. Err s) q.2 in subst (Changes (with_each t p k names) new) (sym same) tt
    one_refused new Unfit r h e all one q =
        let same : r ≡ Err Unfit = q.1 ∙ ap (λ s. Err s) q.2 in
        subst (Changes (with_each t p k names) new) (sym same) (none_added h e all one)
