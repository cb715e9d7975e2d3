-- Sets of groups of slots, and sets of free slots: unification, projection and what actions do
-- (Jacobs and Langen 1992; Muthukumar and Hermenegildo 1992).
use Rattle.std.specs.Prelude.{ℕ, zero, suc, ◌^◌, ◌%◌, ◌/◌, Bool, true, false, cond, not, ◌||◌, ◌&&◌, nat_eq, List, [], ◌∷◌, ◌++◌, map, filter, bit_and, bit_or, Option, Some, None, length}
use Rattle.plai_base.specs.Mask.{has_slot, mask_of}
use Rattle.plai_base.specs.Sets.{has, has_some, has_all}
use Rattle.plai_share_laws.specs.Groups.{meets, without, normal, rel, missing, star, bin, near}

-- A set of groups of so many slots, an ascending list of masks, and the set of the free slots.
pub record Shares : Type 0 where
  pub slots : ℕ
  pub groups : List ℕ
  pub free : ℕ

-- what unify sees of a term: the slot of a variable, or the slots of the variables of any other term
pub data Side : Type 0 where
  Slot : ℕ → Side
  Other : ℕ → Side

abbrev pub slots_of : Side → ℕ
slots_of (Slot x) = mask_of x
slots_of (Other mask) = mask

abbrev pub is_free : ℕ → Side → Bool
is_free free (Slot x) = has_slot free x
is_free free (Other mask) = false

-- the unions of groups of the two sides; one_free says that one of the sides is a free variable
abbrev pub united : Bool → List ℕ → List ℕ → List ℕ
united one_free r t = cond one_free (bin r t) (bin (star r) (star t))

-- the groups after unification of sides with the slots a and b
abbrev pub unify_groups : Bool → ℕ → ℕ → List ℕ → List ℕ
unify_groups one_free a b s = normal (missing (bit_or a b) s ++ united one_free (rel a s) (rel b s))

-- the slots that are no longer free, where both sides are free variables, one is, or none
abbrev pub lost : Bool → Bool → ℕ → ℕ → List ℕ → ℕ
lost true true a b s = 0
lost true false a b s = near a s
lost false true a b s = near b s
lost false false a b s = near (bit_or a b) s

-- makes two terms equal
abbrev pub unify : Side → Side → Shares → Shares
unify x t v = record {
  slots = v.slots;
  groups = unify_groups (is_free v.free x || is_free v.free t) (slots_of x) (slots_of t) v.groups;
  free = without v.free (lost (is_free v.free x) (is_free v.free t) (slots_of x) (slots_of t) v.groups);
}

-- the sets that unify forms, in order
abbrev pub unify_formed : Side → Side → Shares → List (List ℕ)
unify_formed x t v =
    let r = rel (slots_of x) v.groups in
    let s = rel (slots_of t) v.groups in
    let new = united (is_free v.free x || is_free v.free t) r s ∷ (unify x t v).groups ∷ [] in
    cond (is_free v.free x || is_free v.free t) new (star r ∷ star s ∷ new)

-- a new slot
abbrev pub widen : Shares → Shares
widen v = record {
  slots = suc v.slots;
  groups = v.groups ++ (mask_of v.slots ∷ []);
  free = bit_or v.free (mask_of v.slots);
}

abbrev pub widen_by : ℕ → Shares → Shares
widen_by zero v = v
widen_by (suc n) v = widen_by n (widen v)

-- the non-empty parts of groups, and their order
abbrev pub parts : (ℕ → ℕ) → List ℕ → List ℕ
parts part groups = normal (filter (λ g. not (nat_eq g 0)) (map part groups))

-- the first n slots
abbrev pub first_slots : ℕ → Shares → Shares
first_slots n v = record { slots = n; groups = parts (λ g. g % 2 ^ n) v.groups; free = v.free % 2 ^ n }

-- the slots from n on, from 0; there are m
abbrev pub last_slots : ℕ → ℕ → Shares → Shares
last_slots n m v = record { slots = m; groups = parts (λ g. g / 2 ^ n) v.groups; free = v.free / 2 ^ n }

-- the groups behind an answer: a is the set of the literal's slots, where answer and free_after stand
abbrev pub back_groups : ℕ → List ℕ → List ℕ → List ℕ
back_groups a answer s = normal (missing a s ++ filter (λ g. has answer (bit_and a g)) (star (rel a s)))

-- a slot stays free where each of the literal's slots that shares a group with it is free in the answer
abbrev pub back_free : ℕ → ℕ → List ℕ → ℕ → ℕ
back_free a free_after s f = without f (near (without a free_after) s)

-- an answer at the literal's slots: a is their set
abbrev pub answered : ℕ → List ℕ → ℕ → Shares → Shares
answered a answer free_after v = record {
  slots = v.slots;
  groups = back_groups a answer v.groups;
  free = back_free a free_after v.groups v.free;
}

abbrev pub answered_formed : ℕ → List ℕ → Shares → List (List ℕ)
answered_formed a answer v = star (rel a v.groups) ∷ back_groups a answer v.groups ∷ []

-- anything may happen to the slots of the set
abbrev pub havocked : ℕ → Shares → Shares
havocked a v = record {
  slots = v.slots;
  groups = normal (missing a v.groups ++ star (rel a v.groups));
  free = without v.free (near a v.groups);
}

abbrev pub havocked_formed : ℕ → Shares → List (List ℕ)
havocked_formed a v = star (rel a v.groups) ∷ (havocked a v).groups ∷ []

-- the slots of the set become ground
abbrev pub grounded : ℕ → Shares → Shares
grounded a v = record {
  slots = v.slots;
  groups = missing a v.groups;
  free = without v.free (near a v.groups);
}

-- both sets meet the group, or neither
abbrev pub alike : ℕ → ℕ → ℕ → Bool
alike a b g = cond (meets a g) (meets b g) (not (meets b g))

-- both slots' terms are identical
abbrev pub same : ℕ → ℕ → Shares → Shares
same a b v = record { slots = v.slots; groups = filter (alike a b) v.groups; free = v.free }

abbrev pub freed : ℕ → Shares → Shares
freed x v = record { slots = v.slots; groups = v.groups; free = bit_or v.free (mask_of x) }

-- whether a group meets the set
abbrev pub any_meets : ℕ → List ℕ → Bool
any_meets a groups = has_some groups (meets a)

-- the side is a variable, or none
abbrev pub var_at : Side → Shares → Option Shares
var_at (Slot x) v = cond (any_meets (mask_of x) v.groups) (Some (freed x v)) None
var_at (Other mask) v = None

-- the side is no variable, or none
abbrev pub nonvar_at : Side → Shares → Option Shares
nonvar_at (Slot x) v = cond (has_slot v.free x) None (Some v)
nonvar_at (Other mask) v = Some v

-- the union of the groups, and the free slots that both have
abbrev pub join : Shares → Shares → Shares
join v w = record { slots = v.slots; groups = normal (v.groups ++ w.groups); free = bit_and v.free w.free }

-- the sizes of the sets formed
abbrev pub sizes : List (List ℕ) → List ℕ
sizes sets = map (λ set. length (normal set)) sets

-- whether the first has fewer groups and more free slots
abbrev pub leq : Shares → Shares → Bool
leq v w = has_all v.groups (has w.groups) && nat_eq (without w.free v.free) 0
