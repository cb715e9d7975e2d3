-- What substitutions the actions of builtins allow, at a literal's arguments (Muthukumar and Hermenegildo 1992).
use Rattle.std.specs.Prelude.{◌≡◌, ℕ, suc, true, List, [], ◌∷◌, if◌then◌else◌}
use Rattle.plai_base.specs.Mask.{has_slot}
use Rattle.plai_terms.specs.declared.term.Term.{Term, Var}
use Rattle.plai_terms.specs.declared.outcome.Outcome.TheVariants.{Unified}
use Rattle.plai_terms.specs.Term.{is_ground}
use Rattle.plai_terms.specs.Subst.{bound_to}
use Rattle.plai_terms.specs.Substitution.{under, IsLocal}
use Rattle.plai_terms.specs.Unification.{Bindings, UnifiesTo}
use Rattle.plai_domain.specs.declared.action.Action.{Action}
use Rattle.plai_domain.specs.declared.action.Action.TheVariants as action
use Rattle.plai_domain.specs.Instances.{argument, IsVar, IsInt}

-- the substitution moves no variable
abbrev pub IsEmpty : (ℕ → Term) → Type 0
IsEmpty f = (v : ℕ) → f v ≡ Var v

-- the terms whose slots are in the set; the first one's slot is given
abbrev pub chosen_from : ℕ → ℕ → List Term → List Term
chosen_from slot slots [] = []
chosen_from slot slots (t ∷ ts) =
    let rest = chosen_from (suc slot) slots ts in
    if has_slot slots slot then t ∷ rest else rest

-- the terms whose slots are in the set, the first one's slot being 0
abbrev pub chosen : ℕ → List Term → List Term
chosen = chosen_from 0

-- The action allows the substitution at these terms, with new variables from the number on.
abbrev pub Allows : Action → ℕ → List Term → (ℕ → Term) → Type 0
Allows action.Fail n ts f = ⊥
Allows (action.Unify i j) n ts f =
    (s : Bindings) × UnifiesTo (argument ts i ∷ []) (argument ts j ∷ []) (Unified s) × ((v : ℕ) → f v ≡ bound_to s v)
Allows (action.Same i j) n ts f = (argument ts i ≡ argument ts j) × IsEmpty f
Allows (action.Ground i) n ts f = IsLocal f n (argument ts i ∷ []) × (is_ground (under f (argument ts i)) ≡ true)
Allows (action.BindInt i) n ts f = IsLocal f n (argument ts i ∷ []) × IsInt (under f (argument ts i))
Allows (action.Var i) n ts f = IsVar (argument ts i) × IsEmpty f
Allows (action.Nonvar i) n ts f = (IsVar (argument ts i) → ⊥) × IsEmpty f
Allows (action.Havoc slots) n ts f = IsLocal f n (chosen slots ts)
