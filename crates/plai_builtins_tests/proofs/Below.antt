-- Terms whose variables are below a number.
use Rattle.std.proofs.Common.{◌≡◌, ℕ, suc, ◌+◌, ◌<◌, ◌≤◌, false, List, [], ◌∷◌, length, drop, get_or, sym, ap, subst, inl, inr, ◌∙◌, arith}
use Rattle.std.proofs.Math.Seq.{drop-cons}
use Rattle.std.proofs.lemmas.List.{drop_all}
use Rattle.plai_terms.specs.Term.{occurs}
use Rattle.plai_terms.specs.declared.term.Term.{Term}
use Rattle.plai_terms.specs.Substitution.{occurs_in, IsBelow, AreBelow}
use Rattle.plai_terms.proofs.Under.{or_cases}

module _ (n : ℕ) where
  -- one more term
  pub one_below : (ts : List Term) (i : ℕ) (t : Term) → i < length ts → t ≡ get_or ts i t → IsBelow n t
      → AreBelow n (drop (i + 1) ts) → AreBelow n (drop i ts)
  one_below ts i t lt is low below =
      let next : i + 1 ≡ suc i = omega arith in
      let rest = subst (λ k. AreBelow n (drop k ts)) next below in
      subst (AreBelow n) (sym (drop-cons ts i t lt ∙ ap (λ u. u ∷ drop (suc i) ts) (sym is)))
      (λ v o. elim (or_cases (occurs v t) (occurs_in v (drop (suc i) ts)) o) [ inl p ↦ low v p | inr p ↦ rest v p ])

  -- no more terms
  pub none_below : (ts : List Term) (i : ℕ) → length ts ≤ i → AreBelow n (drop i ts)
  none_below ts i le v o = let e : drop i ts ≡ [] = drop_all i ts le in let no : occurs_in v (drop i ts) ≡ false = ap (occurs_in v) e in absurd cc
