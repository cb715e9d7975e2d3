-- What an action allows is local to the arguments, where its numbers are those of arguments.
use Rattle.std.proofs.Common.{◌≡◌, inl, inr, ℕ, zero, suc, ◌-◌, ◌<◌, ◌≤◌, Bool, true, false, cond, List, [], ◌∷◌, length, get_or, refl, sym, ap, ◌∙◌, arith}
use Rattle.plai_base.specs.Mask.{has_slot}
use Rattle.plai_terms.specs.Term.{occurs}
use Rattle.plai_terms.specs.Subst.{bound_to}
use Rattle.plai_terms.specs.declared.term.Term.{Term, Var}
use Rattle.plai_terms.specs.Substitution.{occurs_in, IsLocal}
use Rattle.plai_terms.specs.Unification.{Bindings, UnifiesTo}
use Rattle.plai_terms.specs.Unifiers.{IsMostGeneral}
use Rattle.plai_terms.proofs.Under.{occurs-Var_same, or_cases, or_first, or_second, decided}
use Rattle.plai_terms.proofs.Outcomes.{unifier}
use Rattle.plai_terms.specs.declared.outcome.Outcome.TheVariants.{Unified}
use Rattle.plai_domain.specs.declared.action.Action.{Action}
use Rattle.plai_domain.specs.declared.action.Action.TheVariants as action
use Rattle.plai_domain.specs.Instances.{argument, acts_within}
use Rattle.plai_domain.specs.Allowed.{Allows, chosen_from, chosen}
use Rattle.plai_sld.proofs.Local.{rests_local}

-- local to some of the terms is local to the terms
pub local_part : (f : ℕ → Term) (n : ℕ) (us ts : List Term) → ((v : ℕ) → occurs_in v us ≡ true → occurs_in v ts ≡ true) → IsLocal f n us → IsLocal f n ts
local_part f n us ts part k = record {
  moves = λ v lt out.
      elim (decided (occurs_in v us)) [
        | inl e ↦ let t : occurs_in v ts ≡ true = part v e in cc
        | inr e ↦ k.moves v lt e
      ];
  brings = λ v w lt i o.
      elim (decided (occurs_in v us)) [
        | inl e ↦ elim (k.brings v w lt e o) [ inl p ↦ inl (part w p) | inr p ↦ inr p ]
        | inr e ↦ inl (ap (λ x. occurs_in x ts) (occurs-Var_same w v (ap (occurs w) (sym (k.moves v lt e)) ∙ o)) ∙ i)
      ];
}

-- the variables of an argument
there_at : (ts : List Term) (j : ℕ) → j < length ts → (v : ℕ) → occurs v (get_or ts j (Var 0)) ≡ true → occurs_in v ts ≡ true
there_at [] j l v o = absurd (omega (arith, l))
there_at (t ∷ ts) zero l v o = or_first (occurs v t) (occurs_in v ts) o
there_at (t ∷ ts) (suc j) l v o = or_second (occurs v t) (occurs_in v ts) (there_at ts j (omega (arith, l)) v o)

one_there : (ts : List Term) (i : ℕ) → 1 ≤ i → i ≤ length ts → (v : ℕ) → occurs_in v (argument ts i ∷ []) ≡ true → occurs_in v ts ≡ true
one_there ts i a b v o =
    elim (or_cases (occurs v (argument ts i)) false o) [
      | inl p ↦ there_at ts (i - 1) (omega (arith, a, b)) v p
      | inr p ↦ cc
    ]

-- those of chosen arguments
if_there : (b : Bool) (t : Term) (us ts : List Term) (v : ℕ) → (occurs_in v us ≡ true → occurs_in v ts ≡ true) → occurs_in v (cond b (t ∷ us) us) ≡ true
    → occurs_in v (t ∷ ts) ≡ true
if_there true t us ts v h o =
    elim (or_cases (occurs v t) (occurs_in v us) o) [
      | inl p ↦ or_first (occurs v t) (occurs_in v ts) p
      | inr p ↦ or_second (occurs v t) (occurs_in v ts) (h p)
    ]
if_there false t us ts v h o = or_second (occurs v t) (occurs_in v ts) (h o)

chosen_there : (slots slot : ℕ) (ts : List Term) (v : ℕ) → occurs_in v (chosen_from slot slots ts) ≡ true → occurs_in v ts ≡ true
chosen_there slots slot [] v o = cc
chosen_there slots slot (t ∷ ts) v o = if_there (has_slot slots slot) t (chosen_from (suc slot) slots ts) ts v (chosen_there slots (suc slot) ts v) o

-- a unifier of two of the terms is local to the terms, from any number
unifier_local : (f : ℕ → Term) (n : ℕ) (ts : List Term) (a b : Term) (s : Bindings) → ((v : ℕ) → occurs_in v (a ∷ []) ≡ true → occurs_in v ts ≡ true)
    → ((v : ℕ) → occurs_in v (b ∷ []) ≡ true → occurs_in v ts ≡ true) → UnifiesTo (a ∷ []) (b ∷ []) (Unified s) → ((v : ℕ) → f v ≡ bound_to s v)
    → IsLocal f n ts
unifier_local f n ts a b s left right h same =
    let u : IsMostGeneral (a ∷ []) (b ∷ []) s = unifier (a ∷ []) (b ∷ []) s refl h in
    record {
      moves = λ v lt out.
          same v
          ∙ u.moves v (elim (decided (occurs_in v (a ∷ []))) [ inl e ↦ let t : occurs_in v ts ≡ true = left v e in cc | inr e ↦ e ])
          (elim (decided (occurs_in v (b ∷ []))) [ inl e ↦ let t : occurs_in v ts ≡ true = right v e in cc | inr e ↦ e ]);
      brings = λ v w lt k o.
          elim (u.brings v w (ap (occurs w) (sym (same v)) ∙ o)) [
            | inl e ↦ inl (ap (λ x. occurs_in x ts) e ∙ k)
            | inr (inl e) ↦ inl (left w e)
            | inr (inr e) ↦ inl (right w e)
          ];
    }

pub allows_local : (x : Action) (n : ℕ) (ts : List Term) (f : ℕ → Term) → acts_within (length ts) x → Allows x n ts f → IsLocal f n ts
allows_local action.Fail n ts f w h = absurd h
allows_local (action.Unify i j) n ts f (a, b, c, d) (s, h, same) =
    unifier_local f n ts (argument ts i) (argument ts j) s (one_there ts i a b) (one_there ts j c d) h same
allows_local (action.Same i j) n ts f w (e, h) = rests_local f n ts (λ v lt. h v)
allows_local (action.Ground i) n ts f (a, b) (h, none_left) = local_part f n (argument ts i ∷ []) ts (one_there ts i a b) h
allows_local (action.BindInt i) n ts f (a, b) (h, is) = local_part f n (argument ts i ∷ []) ts (one_there ts i a b) h
allows_local (action.Var i) n ts f w (is, h) = rests_local f n ts (λ v lt. h v)
allows_local (action.Nonvar i) n ts f w (apart, h) = rests_local f n ts (λ v lt. h v)
allows_local (action.Havoc slots) n ts f w h = local_part f n (chosen slots ts) ts (chosen_there slots 0 ts) h
