-- Sets of groups that operations form, up to the most groups of a set.
use Rattle.std.specs.Prelude.{◌≡◌, ℕ, ◌+◌, ◌<◌, ◌≤◌, Bool, cond, List, [], ◌∷◌, ◌++◌, length, Option, Some, None, Result, Ok, Err}
use Rattle.plai_domain.specs.declared.dom_fail.DomFail.{DomFail}
use Rattle.plai_domain.specs.declared.dom_fail.DomFail.TheVariants.{Memory, Over}
use Rattle.plai_domain.specs.Outcomes.{most_groups, too_large_from}
use Rattle.plai_share_laws.specs.Groups.{normal, rel, star, bin}
use Rattle.plai_share_laws.specs.Shares.{unify_groups, sizes}

-- The set of the masks is there, or it is too large.
abbrev pub IsFormed : List ℕ → Option (List ℕ) → Type 0
IsFormed masks None = most_groups < length (normal masks)
IsFormed masks (Some set) = (set ≡ normal masks) × (length (normal masks) ≤ most_groups)

-- The list has the masks, or there are too many of them.
abbrev pub IsShortened : List ℕ → Option (List ℕ) → Type 0
IsShortened masks None = most_groups < length (normal masks)
IsShortened masks (Some fewer) = normal fewer ≡ normal masks

-- A part of an operation, which forms these sets behind so many others, fails: for want of memory, or the number is that of
-- the first set that is too large.
abbrev pub IsFailure : ℕ → List (List ℕ) → DomFail → Type 0
IsFailure before sets Memory = Unit {0}
IsFailure before sets (Over place) = too_large_from (before + 1) (sizes sets) ≡ Some place

-- A part of an operation, which forms these sets behind so many others, gives this value where none of them is too large,
-- and else the number of the first that is.
abbrev pub IsPart : {V A : Type 0} → (V → A) → ℕ → List (List ℕ) → A → Result V DomFail → Type 0
IsPart view before sets value (Ok v) = (too_large_from (before + 1) (sizes sets) ≡ None) × (view v ≡ value)
IsPart view before sets value (Err fail) = IsFailure before sets fail

-- Where there is a list, its unions are these.
abbrev pub IsSomeAs : List ℕ → Option (List ℕ) → Type 0
IsSomeAs masks None = Unit {0}
IsSomeAs masks (Some base) = normal (star base) ≡ normal masks

-- the sets that unification forms of two sides, whether one is a free variable or neither
abbrev pub united_formed : Bool → List ℕ → List ℕ → List (List ℕ)
united_formed one_free r t = cond one_free (bin r t ∷ []) (star r ∷ star t ∷ bin (star r) (star t) ∷ [])

-- the sets that unification forms of sides with the slots a and b, the last of them the new groups
abbrev pub groups_formed : Bool → ℕ → ℕ → List ℕ → List (List ℕ)
groups_formed one_free a b s = united_formed one_free (rel a s) (rel b s) ++ (unify_groups one_free a b s ∷ [])
