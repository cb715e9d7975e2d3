-- The outcome of two lists of terms, in the words of lists of terms.
use Rattle.std.proofs.Common.{◌≡◌, inl, inr, ℕ, false, List, [], ◌∷◌, map, length, sym, ap, ◌∙◌}
use Rattle.plai_terms.specs.Term.{occurs}
use Rattle.plai_terms.specs.Subst.{bound_to}
use Rattle.plai_terms.specs.declared.term.Term.{Term}
use Rattle.plai_terms.specs.Substitution.{under, then_also, occurs_in}
use Rattle.plai_terms.specs.Unification.{Equations, Bindings, equations, UnifiesTo}
use Rattle.plai_terms.specs.Unifiers.{IsMostGeneral}
use Rattle.plai_terms.proofs.Solutions.{Unifies, occurs_there}
use Rattle.plai_terms.specs.declared.outcome.Outcome.{Outcome}
use Rattle.plai_terms.specs.declared.outcome.Outcome.TheVariants.{Unified}
use Rattle.plai_terms.proofs.Under.{under-Var, decided, under_same, under_under}
use Rattle.plai_terms.proofs.Solved.{unified_lists, lists_unified}
use Rattle.plai_terms.proofs.General.{extends, solution, one_outcome, there_equations}

unifies_same : (f g : ℕ → Term) → ((v : ℕ) → f v ≡ g v) → (es : Equations) → Unifies f es → Unifies g es
unifies_same f g h [] u = tt
unifies_same f g h (e ∷ es) u =
    (sym (under_same f g e.0 (λ v o. h v)) ∙ u.0 ∙ under_same f g e.1 (λ v o. h v), unifies_same f g h es u.1)

not_in : (v : ℕ) (xs ys : List Term) → occurs_in v xs ≡ false → occurs_in v ys ≡ false → occurs_there v (equations xs ys) ≡ false
not_in v xs ys h k =
    elim (decided (occurs_there v (equations xs ys))) [
      | inl e ↦ elim (there_equations v xs ys e) [ inl p ↦ cc | inr p ↦ cc ]
      | inr e ↦ e
    ]

pub unifier : (xs ys : List Term) (s : Bindings) → length xs ≡ length ys → UnifiesTo xs ys (Unified s) → IsMostGeneral xs ys s
unifier xs ys s l (n, e) =
    let (d, k) = extends n (equations xs ys) [] s e in
    let same : (v : ℕ) → d v ≡ bound_to s v = λ v. sym (k.after v ∙ under-Var d v) in
    record {
      unifies = unified_lists (bound_to s) xs ys l (unifies_same d (bound_to s) same (equations xs ys) k.unifies);
      general = λ f u v. ap (under f) (sym (same v)) ∙ k.general f (lists_unified f xs ys u) v;
      moves = λ v h i. sym (same v) ∙ k.local.moves v (not_in v xs ys h i);
      brings = λ v w o.
          elim (k.local.brings v w (ap (occurs w) (same v) ∙ o)) [
            | inl a ↦ inl a
            | inr a ↦ inr (there_equations w xs ys a)
          ];
    }

-- a result is idempotent
pub idempotent : (xs ys : List Term) (s : Bindings) → length xs ≡ length ys → UnifiesTo xs ys (Unified s) → (t : Term)
    → under (bound_to s) (under (bound_to s) t) ≡ under (bound_to s) t
idempotent xs ys s l h t =
    let u : IsMostGeneral xs ys s = unifier xs ys s l h in
    under_under (bound_to s) (bound_to s) t
    ∙ under_same (then_also (bound_to s) (bound_to s)) (bound_to s) t (λ v o. u.general (bound_to s) u.unifies v)

-- where some substitution unifies, the outcome is a result
pub unifiable : (xs ys : List Term) (o : Outcome) → UnifiesTo xs ys o → (f : ℕ → Term) → map (under f) xs ≡ map (under f) ys → (s : Bindings) × (o ≡ Unified s)
unifiable xs ys o (n, e) f u = solution n (equations xs ys) [] o e f (lists_unified f xs ys u)

pub outcome_is_one : (xs ys : List Term) (o p : Outcome) → UnifiesTo xs ys o → UnifiesTo xs ys p → o ≡ p
outcome_is_one xs ys o p (n, e) (m, f) = one_outcome n m (equations xs ys) [] o p e f
