-- An answer that is a value of its number of arguments fits.
use Rattle.std.proofs.Common.{◌≡◌, ℕ, true, false, nat_eq, eqb-true, Some, None, refl, sym, subst}
use Rattle.plai_theory.proofs.Options.{by_test}
use Rattle.plai_terms.specs.declared.abs.Abs.{Abs}
use Rattle.plai_terms.specs.declared.row_name.RowName.{RowName}
use Rattle.plai_domain.specs.Plain.{PlainDomain}
use Rattle.plai_domain.specs.Conditions.{IsValue}
use Rattle.plai_eval.specs.Answering.{AnswersFit}
use Rattle.plai_ground_tests.specs.ByArity.{by_arity}

pub by_arity_fits : (p : PlainDomain) (arity : ℕ) (answer : Abs) → IsValue p arity answer → AnswersFit p (by_arity arity answer)
by_arity_fits p arity answer value = record { fit = fit }
  where
    fit : (name : RowName) (a : Abs) → IsValue p name.pred.arity name.call → by_arity arity answer name ≡ Some a → IsValue p name.pred.arity a
    fit name a call e = by_test (nat_eq name.pred.arity arity) (λ t. there t) (λ t. absurd (none t))
      where
        there : nat_eq name.pred.arity arity ≡ true → IsValue p name.pred.arity a
        there t =
            let n : name.pred.arity ≡ arity = eqb-true name.pred.arity arity t in
            let f : by_arity arity answer name ≡ Some answer = rw t refl in
            let s : answer ≡ a = cc in
            subst (λ (x : Abs). IsValue p name.pred.arity x) s (subst (λ (k : ℕ). IsValue p k answer) (sym n) value)

        none : nat_eq name.pred.arity arity ≡ false → ⊥
        none t = let f : by_arity arity answer name ≡ None = rw t refl in cc
