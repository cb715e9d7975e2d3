-- Terms and the slots of their variables, for groundness: a term is true exactly where all its variables are
-- (Marriott and Sondergaard 1993). Variable v is slot v.
use Rattle.std.specs.Prelude.{◌≡◌, ℕ, ◌+◌, ◌-◌, ◌<◌, Bool, true, length, ◌&&◌, IsTrue, List, [], ◌∷◌, get_or}
use Rattle.plai_base.specs.Mask.{has_slot}
use Rattle.plai_terms.specs.declared.term.Term.{Term, Var}
use Rattle.plai_terms.specs.declared.prop.Prop.{Prop}
use Rattle.plai_terms.specs.declared.prop.Prop.TheVariants as property
use Rattle.plai_bdd.specs.Assignment.{Assignment}
use Rattle.plai_bdd.specs.Slots.{conjunction}
use Rattle.plai_pos_laws.specs.Assignments.{holds}

-- the slots of the set are below v
abbrev pub IsBelow : ℕ → ℕ → Type 0
IsBelow v set = (slot : ℕ) → IsTrue (has_slot set slot) → slot < v

-- the slots of the sets are below v
abbrev pub AreBelow : ℕ → List ℕ → Type 0
AreBelow v sets = (j : ℕ) → IsBelow v (get_or sets j 0)

-- for each of the first terms, the slots of its variables, which are below v
pub record AreSlotsOf (v count : ℕ) (terms : List Term) (sets : List ℕ) : Type 0 where
  pub size : length sets ≡ count
  pub below : AreBelow v sets
  pub truths : (j : ℕ) → j < count → (at : Assignment) → conjunction (get_or sets j 0) at ≡ holds at (get_or terms j (Var 0))

-- the terms' slots behind the first v have the truths of the terms
abbrev pub AreUnified : ℕ → List ℕ → Assignment → Type 0
AreUnified v sets at = (j : ℕ) → j < length sets → at (v + j) ≡ conjunction (get_or sets j 0) at

-- the property allows the assignment: the argument that it says is ground is true
abbrev pub allowed : Prop → Assignment → Bool
allowed (property.Ground i) at = at (i - 1)
allowed (property.Var i) at = true
allowed (property.Nonvar i) at = true
allowed (property.Int i) at = at (i - 1)
allowed (property.Indep i j) at = true

abbrev pub allowed_all : List Prop → Assignment → Bool
allowed_all [] at = true
allowed_all (p ∷ ps) at = allowed p at && allowed_all ps at
