-- Lists that are compared item by item.
use Rattle.std.proofs.Common.{◌≡◌, ◌↔◌, ℕ, zero, suc, ◌+◌, ◌<◌, ◌≤◌, Bool, true, false, ◌&&◌, List, [], ◌∷◌, ◌++◌, length, nat_eq, eqb-true, slice_get, Some}
use Rattle.std.proofs.Common.{None, sym, refl, ap, ◌∙◌, subst, arith}
use Rattle.std.proofs.lemmas.Bool.{eq-eqb}
use Rattle.plai_clauses.specs.declared.clause.Literal.{Literal}
use Rattle.plai_clauses.specs.declared.clause.Clause.{Clause}
use Rattle.plai_repair.specs.Lost.{IsPrefix}
use Rattle.plai_repair.proofs.Members.{of_two}

-- the first items are the same
abbrev pub AreSame : {A : Type 0} → ℕ → List A → List A → Type 0
AreSame i xs ys = (k : ℕ) → k < i → slice_get xs k ≡ slice_get ys k

pub same_none : {A : Type 0} (xs ys : List A) → AreSame 0 xs ys
same_none xs ys k h = absurd (omega (arith, h))

pub same_more : {A : Type 0} (i : ℕ) (xs ys : List A) (x y : A) → AreSame i xs ys → slice_get xs i ≡ Some x → slice_get ys i ≡ Some y → x ≡ y
    → AreSame (i + 1) xs ys
same_more i xs ys x y same e f is k h =
    of_two k i h (λ less. same k less)
    (λ at. subst (λ (n : ℕ). slice_get xs n ≡ slice_get ys n) (sym at) (e ∙ ap Some is ∙ sym f))

-- the first list is a prefix
pub prefix_of : {A : Type 0} (xs ys : List A) → AreSame (length xs) xs ys → IsPrefix xs ys
prefix_of [] ys same = (ys, refl)
prefix_of (x ∷ xs) [] same = let e : Some x ≡ None = same 0 (omega arith) in cc
prefix_of {A} (x ∷ xs) (y ∷ ys) same =
    let e : Some x ≡ Some y = same 0 (omega arith) in
    let is : x ≡ y = cc in
    let (more, f) = prefix_of xs ys (λ k h. same (suc k) (omega (arith, h))) in
    (more, ap (λ (z : A). z ∷ ys) (sym is) ∙ ap (λ (zs : List A). x ∷ zs) f)

pub prefix_at : {A : Type 0} (xs ys : List A) (i : ℕ) (x y : A) → IsPrefix xs ys → slice_get xs i ≡ Some x → slice_get ys i ≡ Some y → x ≡ y
prefix_at {A} xs ys i x y p e f = let (more, is) = p in at xs more i x y e (subst (λ (zs : List A). slice_get zs i ≡ Some y) is f)
  where
    at : (xs more : List A) (i : ℕ) (x y : A) → slice_get xs i ≡ Some x → slice_get (xs ++ more) i ≡ Some y → x ≡ y
    at [] more i x y e f = cc
    at (z ∷ xs) more zero x y e f = cc
    at (z ∷ xs) more (suc i) x y e f = at xs more i x y e f

pub prefix_long : {A : Type 0} (xs ys : List A) → IsPrefix xs ys → length xs ≤ length ys
prefix_long {A} xs ys p = let (more, is) = p in subst (λ (zs : List A). length xs ≤ length zs) (sym is) (at xs more)
  where
    at : (xs more : List A) → length xs ≤ length (xs ++ more)
    at [] more = omega arith
    at (x ∷ xs) more = let h = at xs more in omega (arith, h)

-- the lists are equal
pub all_same : {A : Type 0} (xs ys : List A) → length xs ≡ length ys → AreSame (length xs) xs ys → xs ≡ ys
all_same [] [] l same = refl
all_same [] (y ∷ ys) l same = absurd (omega (arith, l))
all_same (x ∷ xs) [] l same = absurd (omega (arith, l))
all_same {A} (x ∷ xs) (y ∷ ys) l same =
    let e : Some x ≡ Some y = same 0 (omega arith) in
    let is : x ≡ y = cc in
    ap (λ (z : A). z ∷ xs) is ∙ ap (λ (zs : List A). y ∷ zs) (all_same xs ys (omega (arith, l)) (λ k h. same (suc k) (omega (arith, h))))

pub same_at : {A : Type 0} (xs ys : List A) (i : ℕ) (x y : A) → xs ≡ ys → slice_get xs i ≡ Some x → slice_get ys i ≡ Some y → x ≡ y
same_at {A} xs ys i x y is e f = let g : slice_get ys i ≡ Some x = subst (λ (zs : List A). slice_get zs i ≡ Some x) is e in cc

-- what two tests tell
pub both : {A B : Type 0} (a b : Bool) → (a ≡ true) ↔ A → (b ≡ true) ↔ B → ((a && b) ≡ true) ↔ (A × B)
both true true f g = (λ e. (f.0 refl, g.0 refl), λ p. refl)
both true false f g = (λ e. cc, λ p. let t = g.1 p.1 in cc)
both false b f g = (λ e. cc, λ p. let t = f.1 p.0 in cc)

pub told : (r : Bool) {b : Bool} {A : Type 0} → r ≡ b → (b ≡ true) ↔ A → (r ≡ true) ↔ A
told r e f = (λ t. f.0 (sym e ∙ t), λ a. e ∙ f.1 a)

pub literal_is : (a b : Literal) → ((a.name ≡ b.name) × (a.args ≡ b.args)) × (a.target ≡ b.target) → a ≡ b
literal_is a b ((e, f), g) = λ i. record { name = e i; args = f i; target = g i }

pub clause_is : (a b : Clause) → (((a.name ≡ b.name) × (a.head ≡ b.head)) × (a.variables ≡ b.variables)) × (a.body ≡ b.body) → a ≡ b
clause_is a b (((e, f), g), h) = λ i. record { name = e i; head = f i; variables = g i; body = h i }

pub literal_parts : (a b : Literal) → a ≡ b → ((a.name ≡ b.name) × (a.args ≡ b.args)) × (a.target ≡ b.target)
literal_parts a b e =
    ((ap (λ (l : Literal). l.name) e, ap (λ (l : Literal). l.args) e), ap (λ (l : Literal). l.target) e)

pub clause_parts : (a b : Clause) → a ≡ b → (((a.name ≡ b.name) × (a.head ≡ b.head)) × (a.variables ≡ b.variables)) × (a.body ≡ b.body)
clause_parts a b e =
    (((ap (λ (l : Clause). l.name) e, ap (λ (l : Clause). l.head) e), ap (λ (l : Clause). l.variables) e), ap (λ (l : Clause). l.body) e)

pub number_is : (a b : ℕ) → (nat_eq a b ≡ true) ↔ (a ≡ b)
number_is a b = (eqb-true a b, eq-eqb a b)
