-- What a set of groups says of terms.
use Rattle.plai_share_laws.proofs.Ordered.{IsBelow}
use Rattle.plai_base.specs.Mask.{mask_of}
use Rattle.std.specs.Prelude.{bit_and, cond, ◌&&◌, nat_lt, nat_eq, ◌+◌, ◌≡◌, ◌⊎◌, ℕ, ◌<◌, ◌≤◌, Bool, true, List, Option, Some, None, false, [], ◌∷◌, ◌-◌}
use Rattle.std.specs.Prelude.{zero, suc}
use Rattle.plai_terms.specs.declared.prop.Prop.{Prop}
use Rattle.plai_terms.specs.declared.prop.Prop.TheVariants as property
use Rattle.plai_domain.specs.declared.action.Action.{Action}
use Rattle.plai_domain.specs.declared.action.Action.TheVariants as action
use Rattle.plai_share_laws.proofs.Members.{IsIn, mask_from}
use Rattle.plai_share_laws.specs.Groups.{Has, meets}
use Rattle.plai_share_laws.specs.Shares.{Shares, Side, Slot, Other, slots_of}

-- an instance: a term for each slot, as far as the domain sees it
pub record Instance : Type 0 where
  pub occurs : ℕ → ℕ → Bool
  pub variable : ℕ → Option ℕ

-- its n slots have variables below the number; a variable has itself alone
pub record IsInstance (n number : ℕ) (i : Instance) : Type 0 where
  pub below : (v k : ℕ) → i.occurs v k ≡ true → v < number
  pub within : (v k : ℕ) → i.occurs v k ≡ true → k < n
  pub alone : (k v w : ℕ) → i.variable k ≡ Some v → i.occurs w k ≡ true → w ≡ v
  pub itself : (k v : ℕ) → i.variable k ≡ Some v → i.occurs v k ≡ true

-- the slots whose terms have the variable
abbrev pub group : Instance → ℕ → ℕ → ℕ
group i n v = mask_from (i.occurs v) n

pub record Describes (s : Shares) (i : Instance) : Type 0 where
  pub groups : (v k : ℕ) → i.occurs v k ≡ true → IsIn (group i s.slots v) s.groups
  pub free : (k : ℕ) → Has s.free k → (v : ℕ) × (i.variable k ≡ Some v)

-- a substitution: which variables are in the image of a variable, and whether that is a variable
pub record Change : Type 0 where
  pub puts : ℕ → ℕ → Bool
  pub image : ℕ → Option ℕ

-- the instance after the substitution
pub record IsMoved (i : Instance) (c : Change) (j : Instance) : Type 0 where
  pub into : (v w k : ℕ) → i.occurs v k ≡ true → c.puts v w ≡ true → j.occurs w k ≡ true
  pub from : (w k : ℕ) → j.occurs w k ≡ true → (v : ℕ) × (i.occurs v k ≡ true) × (c.puts v w ≡ true)
  pub to_variable : (k v u : ℕ) → i.variable k ≡ Some v → c.image v ≡ Some u → j.variable k ≡ Some u
  pub from_variable : (k u : ℕ) → j.variable k ≡ Some u → (v : ℕ) × (i.variable k ≡ Some v) × (c.image v ≡ Some u)

-- a slot of the set has the variable
abbrev pub Touches : Instance → ℕ → ℕ → Type 0
Touches i set v = (k : ℕ) × Has set k × (i.occurs v k ≡ true)

-- the substitution leaves the variable
pub record Stays (c : Change) (v : ℕ) : Type 0 where
  pub image : c.image v ≡ Some v
  pub itself : c.puts v v ≡ true
  pub only : (w : ℕ) → c.puts v w ≡ true → w ≡ v

-- local to the terms at the slots of the set, from the number
pub record IsLocal (i : Instance) (set number : ℕ) (c : Change) : Type 0 where
  pub leaves : (v : ℕ) → (Touches i set v → ⊥) → Stays c v
  pub brings : (v w : ℕ) → Touches i set v → c.puts v w ≡ true → Touches i set w ⊎ (number ≤ w)

-- the images of the variables of the set's terms are different variables
pub record Renames (i : Instance) (set : ℕ) (c : Change) : Type 0 where
  pub to_variable : (v : ℕ) → Touches i set v → (u : ℕ) × (c.image v ≡ Some u)
  pub apart : (v w u : ℕ) → Touches i set v → Touches i set w → c.puts v u ≡ true → c.puts w u ≡ true → v ≡ w

-- what is known of a most general substitution that makes the terms of two sides equal:
-- it brings variables of the two sides alone, and both sides have the same variables afterwards
pub record Unifies (i : Instance) (a b : ℕ) (c : Change) : Type 0 where
  pub leaves : (v : ℕ) → (Touches i a v → ⊥) → (Touches i b v → ⊥) → Stays c v
  pub brings : (v w : ℕ) → Touches i a v ⊎ Touches i b v → c.puts v w ≡ true → Touches i a w ⊎ Touches i b w
  pub across : (v w : ℕ) → Touches i a v → c.puts v w ≡ true → (u : ℕ) × Touches i b u × (c.puts u w ≡ true)
  pub back : (v w : ℕ) → Touches i b v → c.puts v w ≡ true → (u : ℕ) × Touches i a u × (c.puts u w ≡ true)

-- the terms at the set have one variable at most
abbrev pub IsOne : Instance → ℕ → Type 0
IsOne i set = (u : ℕ) × ((v : ℕ) → Touches i set v → v ≡ u)

-- the variable that the side's term is, if it is one
abbrev pub variable_at : Instance → Side → Option ℕ
variable_at i (Slot k) = i.variable k
variable_at i (Other set) = None

-- what is known of the substitution that makes both sides equal: where one side is a variable, the variables of
-- the other get different variables
pub record IsUnifier (i : Instance) (x t : Side) (c : Change) : Type 0 where
  pub unifies : Unifies i (slots_of x) (slots_of t) c
  pub left : (y : ℕ) → variable_at i x ≡ Some y → Renames i (slots_of t) c
  pub right : (y : ℕ) → variable_at i t ≡ Some y → Renames i (slots_of x) c

-- the answer describes the terms at the set after the substitution
pub record Answers (n set : ℕ) (answer : List ℕ) (free_after : ℕ) (j : Instance) : Type 0 where
  pub groups : (w k : ℕ) → Has set k → j.occurs w k ≡ true → IsIn (bit_and set (group j n w)) answer
  pub free : (k : ℕ) → Has set k → Has free_after k → (u : ℕ) × (j.variable k ≡ Some u)

-- the terms at the first n slots; and those at the slots from n on
abbrev pub first_terms : ℕ → Instance → Instance
first_terms n i = record { occurs = λ v k. nat_lt k n && i.occurs v k; variable = λ k. cond (nat_lt k n) (i.variable k) None }

abbrev pub last_terms : ℕ → Instance → Instance
last_terms n i = record { occurs = λ v k. i.occurs v (n + k); variable = λ k. i.variable (n + k) }

-- the term of slot k is the one of the side
abbrev pub put_term : ℕ → ℕ → Side → Instance → Instance
put_term n k t i = record {
  occurs = λ v l. cond (nat_eq l k) (meets (slots_of t) (group i n v)) (i.occurs v l);
  variable = λ l. cond (nat_eq l k) (variable_at i t) (i.variable l);
}

-- slot n has a new variable
abbrev pub new_term : ℕ → ℕ → Instance → Instance
new_term n y i = record {
  occurs = λ v l. cond (nat_eq l n) (nat_eq v y) (i.occurs v l);
  variable = λ l. cond (nat_eq l n) (Some y) (i.variable l);
}

-- the terms of the sides under an instance of n slots
abbrev pub side_occurs : ℕ → List Side → Instance → ℕ → ℕ → Bool
side_occurs n [] i v k = false
side_occurs n (t ∷ ts) i v zero = meets (slots_of t) (group i n v)
side_occurs n (t ∷ ts) i v (suc k) = side_occurs n ts i v k

abbrev pub side_variable : List Side → Instance → ℕ → Option ℕ
side_variable [] i k = None
side_variable (t ∷ ts) i zero = variable_at i t
side_variable (t ∷ ts) i (suc k) = side_variable ts i k

abbrev pub arguments : ℕ → List Side → Instance → Instance
arguments n args i = record { occurs = side_occurs n args i; variable = side_variable args i }

-- the instance with these terms at the slots from n on
abbrev pub extended : ℕ → List Side → Instance → Instance
extended n args i = record {
  occurs = λ v l. cond (nat_lt l n) (i.occurs v l) (side_occurs n args i v (l - n));
  variable = λ l. cond (nat_lt l n) (i.variable l) (side_variable args i (l - n));
}

-- each side's slots are below n
abbrev pub AreBelow : ℕ → List Side → Type 0
AreBelow n args = (t : Side) → IsIn t args → IsBelow n (slots_of t)

-- the substitutions that an action allows at the literal's arguments; from the number on, variables are new
abbrev pub IsEmpty : Change → Type 0
IsEmpty c = (v : ℕ) → Stays c v

abbrev pub Allows : Action → ℕ → Instance → Change → Instance → Type 0
Allows action.Fail number i c j = ⊥
Allows (action.Unify a b) number i c j = IsUnifier i (Slot (a - 1)) (Slot (b - 1)) c
Allows (action.Same a b) number i c j = IsEmpty c × ((w : ℕ) → i.occurs w (a - 1) ≡ i.occurs w (b - 1))
Allows (action.Ground a) number i c j = IsLocal i (mask_of (a - 1)) number c × ((w : ℕ) → j.occurs w (a - 1) ≡ true → ⊥)
Allows (action.BindInt a) number i c j = IsLocal i (mask_of (a - 1)) number c × ((w : ℕ) → j.occurs w (a - 1) ≡ true → ⊥)
Allows (action.Var a) number i c j = IsEmpty c × (y : ℕ) × (i.variable (a - 1) ≡ Some y)
Allows (action.Nonvar a) number i c j = IsEmpty c × (i.variable (a - 1) ≡ None)
Allows (action.Havoc set) number i c j = IsLocal i set number c

-- m new variables, from y on, at the slots from n on
abbrev pub new_terms : ℕ → ℕ → ℕ → Instance → Instance
new_terms n y zero i = i
new_terms n y (suc m) i = new_terms (suc n) (suc y) m (new_term n y i)

-- the slots from k on are unified with the sides one by one, each time by a substitution that the last one leaves
-- room for; the result is the instance l
abbrev pub IsUnified : ℕ → ℕ → List Side → Instance → Instance → Type 0
IsUnified n k [] i l = i ≡ l
IsUnified n k (t ∷ ts) i l = (number : ℕ) × (c : Change) × (j : Instance) × IsInstance n number i × IsUnifier i (Slot k) t c × IsMoved i c j
    × IsUnified n (suc k) ts j l

-- the tuple has the property; integer says which of its terms are integers
abbrev pub Holds : (ℕ → Type 0) → Instance → Prop → Type 0
Holds integer i (property.Ground k) = (v : ℕ) → i.occurs v (k - 1) ≡ true → ⊥
Holds integer i (property.Var k) = (v : ℕ) × (i.variable (k - 1) ≡ Some v)
Holds integer i (property.Nonvar k) = i.variable (k - 1) ≡ None
Holds integer i (property.Int k) = integer (k - 1)
Holds integer i (property.Indep k l) = (v : ℕ) → i.occurs v (k - 1) ≡ true → i.occurs v (l - 1) ≡ true → ⊥

-- integers have no variables, and are none
pub record AreIntegers (integer : ℕ → Type 0) (i : Instance) : Type 0 where
  pub closed : (k v : ℕ) → integer k → i.occurs v k ≡ true → ⊥
  pub no_variable : (k v : ℕ) → integer k → i.variable k ≡ Some v → ⊥
