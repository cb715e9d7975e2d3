-- Words on options and lists.
use Rattle.std.specs.Prelude.{◌≡◌, ◌⊎◌, ℕ, zero, suc, List, [], ◌∷◌, Option, Some, None}

-- x is in the list
abbrev pub IsIn : {A : Type 0} → A → List A → Type 0
IsIn x [] = ⊥
IsIn x (y ∷ ys) = (y ≡ x) ⊎ IsIn x ys

-- no item stands twice
abbrev pub AreDistinct : {A : Type 0} → List A → Type 0
AreDistinct [] = Unit {0}
AreDistinct (x ∷ xs) = (IsIn x xs → ⊥) × AreDistinct xs

-- what f gives where the option has a value, and z where it is none
abbrev pub given : {A B : Type 0} → B → (A → B) → Option A → B
given z f None = z
given z f (Some x) = f x

-- the option has a value, of which P holds
abbrev pub HasSome : {A : Type 0} → (A → Type 0) → Option A → Type 0
HasSome P None = ⊥
HasSome P (Some x) = P x

-- an order with none below all
abbrev pub UpTo : {A : Type 0} → (A → A → Type 0) → Option A → Option A → Type 0
UpTo R None y = Unit {0}
UpTo R (Some x) None = ⊥
UpTo R (Some x) (Some y) = R x y

-- the i-th of a list, from 0
abbrev pub item : {A : Type 0} → List A → ℕ → Option A
item [] i = None
item (x ∷ xs) zero = Some x
item (x ∷ xs) (suc i) = item xs i
