-- Tuples of terms and their properties, instances of clauses, and what the actions of builtins allow in a wider sense (Muthukumar
-- and Hermenegildo 1992).
use Rattle.std.specs.Prelude.{◌≡◌, ℕ, suc, ◌-◌, ◌^◌, ◌<◌, ◌≤◌, ℤ, Bool, true, ◌&&◌, All, List, [], ◌∷◌, slice_index_or}
use Rattle.plai_terms.specs.declared.term.Term.{Term, Var, Int}
use Rattle.plai_terms.specs.declared.prop.Prop.{Prop}
use Rattle.plai_terms.specs.declared.prop.Prop.TheVariants as property
use Rattle.plai_terms.specs.Term.{is_ground, occurs, has_variables_below}
use Rattle.plai_terms.specs.Subst.{apply_of}
use Rattle.plai_domain.specs.declared.action.Action.{Action}
use Rattle.plai_domain.specs.declared.action.Action.TheVariants as action

-- the i-th term, from 1
abbrev pub argument : List Term → ℕ → Term
argument terms i = slice_index_or terms (i - 1) (Var 0)

abbrev pub IsVar : Term → Type 0
IsVar t = (v : ℕ) × (t ≡ Var v)

abbrev pub IsInt : Term → Type 0
IsInt t = (z : ℤ) × (t ≡ Int z)

-- two arguments are independent where they share no variable
abbrev pub has_property : List Term → Prop → Type 0
has_property terms (property.Ground i) = is_ground (argument terms i) ≡ true
has_property terms (property.Var i) = IsVar (argument terms i)
has_property terms (property.Nonvar i) = IsVar (argument terms i) → ⊥
has_property terms (property.Int i) = IsInt (argument terms i)
has_property terms (property.Indep i j) = (v : ℕ) → occurs v (argument terms i) ≡ true → occurs v (argument terms j) ≡ true → ⊥

abbrev pub has_properties : List Term → List Prop → Type 0
has_properties terms pre = All (has_property terms) pre

-- the property speaks of arguments from 1 to n
abbrev pub speaks_within : ℕ → Prop → Type 0
speaks_within n (property.Ground i) = (1 ≤ i) × (i ≤ n)
speaks_within n (property.Var i) = (1 ≤ i) × (i ≤ n)
speaks_within n (property.Nonvar i) = (1 ≤ i) × (i ≤ n)
speaks_within n (property.Int i) = (1 ≤ i) × (i ≤ n)
speaks_within n (property.Indep i j) = (1 ≤ i) × (i ≤ n) × (1 ≤ j) × (j ≤ n)

-- each term's variables are numbered below the limit
abbrev pub all_below : ℕ → List Term → Bool
all_below limit [] = true
all_below limit (t ∷ ts) = has_variables_below limit t && all_below limit ts

-- binds the variables from a first one on to these terms
abbrev pub numbered : ℕ → List Term → List (ℕ × Term)
numbered first [] = []
numbered first (t ∷ ts) = (first, t) ∷ numbered (suc first) ts

-- a term of a clause, where the clause's variables are these terms
abbrev pub instance_of : List Term → Term → Term
instance_of variables = apply_of (numbered 0 variables)

-- the action's arguments are among the first m, numbered from 1
abbrev pub acts_within : ℕ → Action → Type 0
acts_within m action.Fail = Unit {0}
acts_within m (action.Unify i j) = (1 ≤ i) × (i ≤ m) × (1 ≤ j) × (j ≤ m)
acts_within m (action.Same i j) = (1 ≤ i) × (i ≤ m) × (1 ≤ j) × (j ≤ m)
acts_within m (action.Ground i) = (1 ≤ i) × (i ≤ m)
acts_within m (action.BindInt i) = (1 ≤ i) × (i ≤ m)
acts_within m (action.Var i) = (1 ≤ i) × (i ≤ m)
acts_within m (action.Nonvar i) = (1 ≤ i) × (i ≤ m)
acts_within m (action.Havoc slots) = slots < 2 ^ m

-- The action allows the substitution at these arguments, in a wider sense than `Allows`: it need not be local to them.
abbrev pub allows_at : List Term → List (ℕ × Term) → Action → Type 0
allows_at terms s action.Fail = ⊥
allows_at terms s (action.Unify i j) = apply_of s (argument terms i) ≡ apply_of s (argument terms j)
allows_at terms s (action.Same i j) = (s ≡ []) × (argument terms i ≡ argument terms j)
allows_at terms s (action.Ground i) = is_ground (apply_of s (argument terms i)) ≡ true
allows_at terms s (action.BindInt i) = IsInt (apply_of s (argument terms i))
allows_at terms s (action.Var i) = (s ≡ []) × IsVar (argument terms i)
allows_at terms s (action.Nonvar i) = (s ≡ []) × (IsVar (argument terms i) → ⊥)
allows_at terms s (action.Havoc slots) = Unit {0}
