-- Lemmas on the order of options, and on `given`.
use Rattle.std.proofs.Common.{◌≡◌, Bool, true, false, Option, Some, None, List, [], sym, refl, ap, subst}
use Rattle.plai_theory.specs.Words.{IsIn, given, UpTo}

pub UpTo-trans : {A : Type 0} (R : A → A → Type 0) → ((x y z : A) → R x y → R y z → R x z) → (a b c : Option A) → UpTo R a b → UpTo R b c → UpTo R a c
UpTo-trans R t None b c h k = tt
UpTo-trans R t (Some x) None c h k = absurd h
UpTo-trans R t (Some x) (Some y) None h k = absurd k
UpTo-trans R t (Some x) (Some y) (Some z) h k = t x y z h k

pub UpTo-antisym : {A : Type 0} (R : A → A → Type 0) → ((x y : A) → R x y → R y x → x ≡ y) → (a b : Option A) → UpTo R a b → UpTo R b a → a ≡ b
UpTo-antisym R t None None h k = refl
UpTo-antisym R t None (Some y) h k = absurd k
UpTo-antisym R t (Some x) None h k = absurd h
UpTo-antisym R t (Some x) (Some y) h k = ap Some (t x y h k)

pub UpTo-left : {A : Type 0} (R : A → A → Type 0) → ((x y : A) → R x y → R x x) → (a b : Option A) → UpTo R a b → UpTo R a a
UpTo-left R t None b h = tt
UpTo-left R t (Some x) None h = absurd h
UpTo-left R t (Some x) (Some y) h = t x y h

-- two bound options lie in order where what they are bound to does
pub given_up_to : {A B : Type 0} (R : A → A → Type 0) (Q : B → B → Type 0) (a b : Option A) (f g : A → Option B) → UpTo R a b
    → ((x y : A) → a ≡ Some x → b ≡ Some y → R x y → UpTo Q (f x) (g y)) → UpTo Q (given None f a) (given None g b)
given_up_to R Q None b f g h k = tt
given_up_to R Q (Some x) None f g h k = absurd h
given_up_to R Q (Some x) (Some y) f g h k = k x y refl refl h

-- they are equal where what they are bound to is
pub given_same : {A B : Type 0} (z : B) (a : Option A) (f g : A → B) → ((x : A) → a ≡ Some x → f x ≡ g x) → given z f a ≡ given z g a
given_same z None f g k = refl
given_same z (Some x) f g k = k x refl

-- a member of a bound list
pub given_in : {A B : Type 0} (P : Type 0) (n : B) (a : Option A) (f : A → List B) → IsIn n (given [] f a) → ((x : A) → a ≡ Some x → IsIn n (f x) → P) → P
given_in P n None f h k = absurd h
given_in P n (Some x) f h k = k x refl h

pub in_given : {A B : Type 0} (n : B) (a : Option A) (f : A → List B) (x : A) → a ≡ Some x → IsIn n (f x) → IsIn n (given [] f a)
in_given {A} n a f x e h = subst (λ (o : Option A). IsIn n (given [] f o)) (sym e) h

-- the lower value is there only where the upper one is
pub upper_of : {A : Type 0} (R : A → A → Type 0) (a b : Option A) (x : A) → UpTo R a b → a ≡ Some x → (y : A) × (b ≡ Some y) × R x y
upper_of {A} R a None x h e = absurd (subst (λ (o : Option A). UpTo R o None) e h)
upper_of {A} R a (Some y) x h e = (y, refl, subst (λ (o : Option A). UpTo R o (Some y)) e h)

pub by_test : {P : Type 0} (b : Bool) → (b ≡ true → P) → (b ≡ false → P) → P
by_test true h k = h refl
by_test false h k = k refl
