-- What properties of arguments say of sharing and freeness (Muthukumar and Hermenegildo 1992).
use Rattle.std.specs.Prelude.{ℕ, ◌-◌, ◌^◌, Bool, false, not, ◌&&◌, List, [], ◌∷◌, filter}
use Rattle.std.specs.List.{range_with_len}
use Rattle.plai_terms.specs.declared.prop.Prop.{Prop}
use Rattle.plai_terms.specs.declared.prop.Prop.TheVariants as property
use Rattle.plai_base.specs.Mask.{mask_of, has_slot}
use Rattle.plai_base.specs.Sets.{has_some}
use Rattle.plai_share_laws.specs.Groups.{meets, missing}
use Rattle.plai_share_laws.specs.Shares.{Shares, any_meets, freed}

-- all groups, no free slot
abbrev pub anything : ℕ → Shares
anything n = record { slots = n; groups = range_with_len 1 (2 ^ n - 1); free = 0 }

-- no group with the slot
abbrev pub with_ground : ℕ → Shares → Shares
with_ground k v = record { slots = v.slots; groups = missing (mask_of k) v.groups; free = v.free }

-- the group has both slots
abbrev pub both : ℕ → ℕ → ℕ → Bool
both k l g = meets (mask_of k) g && meets (mask_of l) g

abbrev pub apart : ℕ → ℕ → ℕ → Bool
apart k l g = not (both k l g)

abbrev pub with_property : Prop → Shares → Shares
with_property (property.Ground k) v = with_ground (k - 1) v
with_property (property.Var k) v = freed (k - 1) v
with_property (property.Nonvar k) v = v
with_property (property.Int k) v = with_ground (k - 1) v
with_property (property.Indep k l) v = record { slots = v.slots; groups = filter (apart (k - 1) (l - 1)) v.groups; free = v.free }

abbrev pub with_all : List Prop → Shares → Shares
with_all [] v = v
with_all (p ∷ ps) v = with_all ps (with_property p v)

abbrev pub describe : ℕ → List Prop → Shares
describe n pre = with_all pre (anything n)

-- some group has both slots
abbrev pub any_both : ℕ → ℕ → List ℕ → Bool
any_both k l groups = has_some groups (both k l)

-- each tuple that is described has the property
abbrev pub entails : Shares → Prop → Bool
entails v (property.Ground k) = not (any_meets (mask_of (k - 1)) v.groups)
entails v (property.Var k) = has_slot v.free (k - 1)
entails v (property.Nonvar k) = not (any_meets (mask_of (k - 1)) v.groups)
entails v (property.Int k) = false
entails v (property.Indep k l) = not (any_both (k - 1) (l - 1) v.groups)

-- none has it
abbrev pub excludes : Shares → Prop → Bool
excludes v (property.Ground k) = has_slot v.free (k - 1)
excludes v (property.Var k) = not (any_meets (mask_of (k - 1)) v.groups)
excludes v (property.Nonvar k) = has_slot v.free (k - 1)
excludes v (property.Int k) = has_slot v.free (k - 1)
excludes v (property.Indep k l) = false
