-- What solves one equation is what sharing and freeness ask of a unifier.
use Rattle.std.proofs.Common.{◌≡◌, ◌⊎◌, ℕ, zero, suc, Bool, true, false, ◌||◌, List, [], ◌∷◌, Some, None, refl, sym, ap, subst, ◌∙◌, inl, inr}
use Rattle.plai_terms.specs.Term.{occurs}
use Rattle.plai_terms.specs.Subst.{bound_to}
use Rattle.plai_terms.specs.Substitution.{under, occurs_in}
use Rattle.plai_terms.specs.Unification.{Bindings, move_of, moved, going_on, solve, UnifiesTo}
use Rattle.plai_terms.specs.declared.term.Term.{Term, Var, Compound}
use Rattle.plai_terms.specs.declared.outcome.Outcome.TheVariants.{Unified}
use Rattle.plai_terms.proofs.Under.{occurs-Var_same, or_cases}
use Rattle.plai_terms.proofs.Outcomes.{unifier}
use Rattle.plai_terms.proofs.Solved.{single, single_cases, single-same}
use Rattle.plai_share_laws.proofs.Effects.{Step, Effect, effect}
use Rattle.plai_share_laws.specs.Sides.{variable_of}
use Rattle.plai_share_laws.proofs.Placed.{IsRenaming, IsSolution}
use Rattle.plai_share_laws.proofs.TermVariables.{variable_of-Var, variable_of-Compound}

same_var : (v w : ℕ) → Var v ≡ Var w → v ≡ w
same_var v w e = let k : Some v ≡ Some w = sym (variable_of-Var v) ∙ ap variable_of e ∙ variable_of-Var w in cc

-- nothing is moved
kept_renames : (f : ℕ → Term) (t : Term) → ((v : ℕ) → occurs v t ≡ true → f v ≡ Var v) → IsRenaming f t
kept_renames f t k = record {
  to_variable = λ v o. (v, k v o);
  apart = λ v w u o p e g. same_var v u (sym (k v o) ∙ e) ∙ sym (same_var w u (sym (k w p) ∙ g));
}

-- the only variable becomes a variable
var_renames : (f : ℕ → Term) (v y : ℕ) → f v ≡ Var y → IsRenaming f (Var v)
var_renames f v y e = record {
  to_variable = λ w o. (y, subst (λ z. f z ≡ Var y) (sym (occurs-Var_same w v o)) e);
  apart = λ w x u o p g h. occurs-Var_same w v o ∙ sym (occurs-Var_same x v p);
}

single_renames : (v : ℕ) (t : Term) → occurs v t ≡ false → IsRenaming (single v t) t
single_renames v t absent = kept_renames (single v t) t (λ w o.
    elim (single_cases v t w) [
      | inl k ↦ let there : occurs v t ≡ true = subst (λ z. occurs z t ≡ true) (sym k.0) o in cc
      | inr k ↦ k.1
    ])

done : (n : ℕ) (bs s : Bindings) → solve n [] bs ≡ Some (Unified s) → bs ≡ s
unfolding solve
done zero bs s e = cc
done (suc n) bs s e = cc

-- where one side is a variable, the other side's variables become different variables
abbrev Rename : Term → Term → Bindings → Type 0
Rename a b s = ((y : ℕ) → a ≡ Var y → IsRenaming (bound_to s) b) × ((y : ℕ) → b ≡ Var y → IsRenaming (bound_to s) a)

no_compound : (name : List ℕ) (args : List Term) (y : ℕ) (t : Term) → t ≡ Compound name args → t ≡ Var y → ⊥
no_compound name args y t e f =
    let k : None ≡ Some y = sym (variable_of-Compound name args) ∙ ap variable_of (sym e ∙ f) ∙ variable_of-Var y in cc

renames_by : (n : ℕ) (a b : Term) (s : Bindings) (f : Step) → Effect a b f → going_on (solve n) (f [] []) ≡ Some (Unified s) → Rename a b s
renames_by n a b s f (inl k) e =
    let same : [] ≡ s = done n [] s (ap (going_on (solve n)) (sym (k.goes [] [])) ∙ e) in
    subst (Rename a b) same (λ y g. kept_renames (bound_to []) b (λ v o. refl), λ y g. kept_renames (bound_to []) a (λ v o. refl))
renames_by n a b s f (inr (inl k)) e =
    let v = k.variable in
    let t = k.term in
    let same : (v, t) ∷ [] ≡ s = done n ((v, t) ∷ []) s (ap (going_on (solve n)) (sym (k.goes [] [])) ∙ e) in
    subst (Rename a b) same (elim k.sides [
      | inl h ↦ (
        λ y g. subst (IsRenaming (single v t)) (sym h.1) (single_renames v t k.absent),
        λ y g. subst (IsRenaming (single v t)) (sym h.0) (var_renames (single v t) v y (single-same v t ∙ sym h.1 ∙ g)),
      )
      | inr h ↦ (
        λ y g. subst (IsRenaming (single v t)) (sym h.1) (var_renames (single v t) v y (single-same v t ∙ sym h.0 ∙ g)),
        λ y g. subst (IsRenaming (single v t)) (sym h.0) (single_renames v t k.absent),
      )
    ])
renames_by n a b s f (inr (inr (inl k))) e =
    (λ y g. absurd (no_compound k.split.name k.split.xs y a k.split.left g), λ y g. absurd (no_compound k.split.name k.split.ys y b k.split.right g))
renames_by n a b s f (inr (inr (inr k))) e =
    let d : Some k.outcome ≡ Some (Unified s) = ap (going_on (solve n)) (sym (k.goes [] [])) ∙ e in
    let c : k.outcome ≡ Unified s = cc in absurd (k.fails s c)

renames : (n : ℕ) (a b : Term) (s : Bindings) → solve n ((a, b) ∷ []) [] ≡ Some (Unified s) → Rename a b s
unfolding solve
renames zero a b s e = cc
renames (suc n) a b s e = renames_by n a b s (moved (move_of a b)) (effect a b) e

not_in : (v : ℕ) (t : Term) → (occurs v t ≡ true → ⊥) → occurs_in v (t ∷ []) ≡ false
not_in v t h = of (occurs v t) h
  where
    of : (b : Bool) → (b ≡ true → ⊥) → (b || false) ≡ false
    of true h = absurd (h refl)
    of false h = refl

is_in : (w : ℕ) (t : Term) → occurs_in w (t ∷ []) ≡ true → occurs w t ≡ true
is_in w t o = elim (or_cases (occurs w t) false o) [ inl p ↦ p | inr p ↦ cc ]

pub solution : (a b : Term) (s : Bindings) → UnifiesTo (a ∷ []) (b ∷ []) (Unified s) → IsSolution (bound_to s) a b
solution a b s (n, e) =
    let u = unifier (a ∷ []) (b ∷ []) s refl (n, e) in
    let r = renames n a b s e in
    record {
      equal = first_same (under (bound_to s) a) (under (bound_to s) b) u.unifies;
      leaves = λ v p q. u.moves v (not_in v a p) (not_in v b q);
      brings = λ v w h o.
          elim (u.brings v w o) [
            | inl k ↦ subst (λ z. (occurs z a ≡ true) ⊎ (occurs z b ≡ true)) (sym k) h
            | inr k ↦ elim k [ inl p ↦ inl (is_in w a p) | inr p ↦ inr (is_in w b p) ]
          ];
      left = r.0;
      right = r.1;
    }
  where
    first_same : (x y : Term) → x ∷ [] ≡ y ∷ [] → x ≡ y
    first_same x y e = cc

-- the sides change places
pub turned : (f : ℕ → Term) (a b : Term) → IsSolution f a b → IsSolution f b a
turned f a b u = record {
  equal = sym u.equal;
  leaves = λ v p q. u.leaves v q p;
  brings = λ v w h o. swap (u.brings v w (swap h) o);
  left = u.right;
  right = u.left;
}
  where
    swap : {A B : Type 0} → A ⊎ B → B ⊎ A
    swap (inl a) = inr a
    swap (inr b) = inl b
