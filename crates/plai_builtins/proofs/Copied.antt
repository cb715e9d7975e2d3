-- A copy's variables are new, and `copy_term` does what its action allows.
use Rattle.std.proofs.Common.{◌≡◌, inl, inr, ℕ, suc, ◌≤◌, true, false, cond, nat_eq, Some, List, [], ◌∷◌, refl, sym, ap, subst, ◌∙◌, arith}
use Rattle.std.specs.Prelude.{option_map}
use Rattle.std.proofs.lemmas.Bool.{eqb-true}
use Rattle.plai_theory.proofs.Options.{by_test}
use Rattle.plai_base.specs.Mask.{mask_of}
use Rattle.plai_terms.specs.Term.{occurs}
use Rattle.plai_terms.specs.Subst.{bound_to}
use Rattle.plai_terms.specs.declared.term.Term.{Term, Var}
use Rattle.plai_terms.specs.declared.outcome.Outcome.{Outcome}
use Rattle.plai_terms.specs.declared.outcome.Outcome.TheVariants.{Unified, Clash, Occurs}
use Rattle.plai_terms.specs.Substitution.{occurs_in, IsLocal}
use Rattle.plai_terms.specs.Unification.{Bindings, UnifiesTo}
use Rattle.plai_terms.proofs.Outcomes.{unifier}
use Rattle.plai_terms.proofs.Under.{occurs-Var_same, or_cases, or_none, source}
use Rattle.plai_domain.specs.declared.action.Action.TheVariants as action
use Rattle.plai_builtins.specs.Copies.{variables_of, renaming, copy_of}
use Rattle.plai_builtins.specs.InTurn.{AllowedInTurn}
use Rattle.plai_builtins.specs.Meaning.{solved, kept_to, SolveWithin, Meets}
use Rattle.plai_builtins.proofs.Grounded.{in_one}
use Rattle.plai_builtins.proofs.Occurring.{has, variables_there}
use Rattle.plai_builtins.proofs.Turns.{last_action}

pub renamed : (v first : ℕ) (us : List ℕ) → has v us ≡ true → (k : ℕ) × (first ≤ k) × (bound_to (renaming first us) v ≡ Var k)
renamed v first [] e = absurd cc
renamed v first (u ∷ us) e =
    by_test (nat_eq u v)
    (λ q. (first, omega arith, ap (λ b. cond b (Var first) (bound_to (renaming (suc first) us) v)) q))
    (λ q.
    let there : has v us ≡ true = elim (or_cases (nat_eq u v) (has v us) e) [ inl p ↦ absurd cc | inr p ↦ p ] in
    let (k, le, is) = renamed v (suc first) us there in
    (k, omega arith, ap (λ b. cond b (Var first) (bound_to (renaming (suc first) us) v)) q ∙ is))

-- each variable of a copy is new
pub copy_new : (first w : ℕ) (t : Term) → occurs w (copy_of first t) ≡ true → first ≤ w
copy_new first w t o =
    let (v, i, j) = source (bound_to (renaming first (variables_of t))) w t o in
    let (k, le, is) = renamed v first (variables_of t) (variables_there v t ∙ i) in
    let same = occurs-Var_same w k (ap (occurs w) (sym is) ∙ j) in
    omega arith

-- the bindings of a term's variables
pub kept_at : (t : Term) (v : ℕ) → occurs v t ≡ true → (s : Bindings) → bound_to (kept_to t s) v ≡ bound_to s v
kept_at t v o [] = refl
kept_at t v o (p ∷ ps) =
    by_test (occurs p.0 t)
    (λ k. rw k (ap (λ r. cond (nat_eq p.0 v) p.1 r) (kept_at t v o ps)))
    (λ k.
    let apart : nat_eq p.0 v ≡ false = by_test (nat_eq p.0 v)
    (λ q. let there : occurs p.0 t ≡ true = ap (λ u. occurs u t) (eqb-true p.0 v q) ∙ o in absurd cc) (λ q. q) in
    rw k (kept_at t v o ps ∙ sym (ap (λ b. cond b p.1 (bound_to ps v)) apart)))

pub kept_off : (t : Term) (v : ℕ) → occurs v t ≡ false → (s : Bindings) → bound_to (kept_to t s) v ≡ Var v
kept_off t v o [] = refl
kept_off t v o (p ∷ ps) =
    by_test (occurs p.0 t)
    (λ k.
    let apart : nat_eq p.0 v ≡ false = by_test (nat_eq p.0 v)
    (λ q. let there : occurs v t ≡ true = ap (λ u. occurs u t) (sym (eqb-true p.0 v q)) ∙ k in absurd cc) (λ q. q) in
    rw k (ap (λ b. cond b p.1 (bound_to (kept_to t ps) v)) apart ∙ kept_off t v o ps))
    (λ k. rw k (kept_off t v o ps))

kept_is : (t : Term) (o : Outcome) (s : Bindings) → Some s ≡ option_map (kept_to t) (solved o) → (u : Bindings) × (o ≡ Unified u) × (s ≡ kept_to t u)
kept_is t (Unified u) s e = let k : s ≡ kept_to t u = cc in (u, refl, k)
kept_is t Clash s e = absurd cc
kept_is t Occurs s e = absurd cc

pub copy_allowed : (n : ℕ) (l r : Term) (s : Bindings) → Meets (SolveWithin r (copy_of n l)) (Some s)
    → AllowedInTurn n (action.Havoc (mask_of 1) ∷ []) (l ∷ r ∷ []) (bound_to s)
copy_allowed n l r s (o, out, e) =
    let (u, is, kept) = kept_is r o s e in
    let g = unifier (r ∷ []) (copy_of n l ∷ []) u refl (subst (UnifiesTo (r ∷ []) (copy_of n l ∷ [])) is out) in
    let local : IsLocal (bound_to s) n (r ∷ []) = record {
      moves = λ v lt away. ap (λ b. bound_to b v) kept ∙ kept_off r v (or_none (occurs v r) false away).0 u;
      brings = λ v w lt i j.
          elim (g.brings v w (ap (occurs w) (sym (ap (λ b. bound_to b v) kept ∙ kept_at r v (in_one v r i) u)) ∙ j)) [
            | inl same ↦ inl (ap (λ x. occurs_in x (r ∷ [])) same ∙ i)
            | inr (inl p) ↦ inl p
            | inr (inr p) ↦ inr (copy_new n w l (in_one w (copy_of n l) p))
          ];
    } in
    last_action n (action.Havoc (mask_of 1)) (l ∷ r ∷ []) (bound_to s) local
