-- Different sets of assignments to as many slots have different texts.
use Rattle.std.proofs.Common.{◌≡◌, ℕ, zero, suc, ◌+◌, ◌*◌, ◌/◌, ◌%◌, ◌^◌, ◌≤◌, ◌<◌, Bool, true, false, ◌||◌, not, cond, List, [], ◌∷◌, ◌++◌, inl, inr, refl}
use Rattle.std.proofs.Common.{sym, ap, ◌∙◌, arith, subst, append_assoc, codes}
use Rattle.std.specs.Fmt.{decimal}
use Rattle.std.proofs.Math.Nat.{pow-suc}
use Rattle.std.proofs.lemmas.Bool.{false≢true, or_parts, or_cases, cases_eq}
use Rattle.std.proofs.lemmas.Fmt.{decimal_injective, decimal_by_steps, decimal_digit}
use Rattle.plai_base.specs.Sets.{has, IsSet}
use Rattle.std.specs.Bool.{beq}
use Rattle.plai_terms.specs.Shape.{Shape, All, None, Node, depends, shape, shape_text, set_text}
use Rattle.plai_base.proofs.Sets.{same_set}

-- ---- texts are read in one way

abbrev NoSpace : List ℕ → Type 0
NoSpace [] = Unit {0}
NoSpace (x ∷ xs) = (32 < x) × NoSpace xs

no_space_push : (xs : List ℕ) (x : ℕ) → NoSpace xs → 32 < x → NoSpace (xs ++ x ∷ [])
no_space_push [] x h l = (l, tt)
no_space_push (y ∷ ys) x h l = (h.0, no_space_push ys x h.1 l)

decimal_no_space : (n : ℕ) → n < 2 ^ 64 → NoSpace (decimal n)
decimal_no_space n l =
    decimal_by_steps (λ m ds. NoSpace ds)
    (λ m h. let big : 32 < 48 + m = omega arith in (big, tt))
    (λ m ds h k. no_space_push ds (48 + m % 10) k (omega arith))
    n l

at_space : (xs ys r s : List ℕ) → NoSpace xs → NoSpace ys → xs ++ 32 ∷ r ≡ ys ++ 32 ∷ s → (xs ≡ ys) × (r ≡ s)
at_space [] [] r s h k e = (refl, cc)
at_space [] (y ∷ ys) r s h k e = let q : 32 ≡ y = cc in absurd (omega (arith, k.0, q))
at_space (x ∷ xs) [] r s h k e = let q : x ≡ 32 = cc in absurd (omega (arith, h.0, q))
at_space (x ∷ xs) (y ∷ ys) r s h k e =
    let q : x ≡ y = cc in
    let t : xs ++ 32 ∷ r ≡ ys ++ 32 ∷ s = cc in
    let (p, u) = at_space xs ys r s h.1 k.1 t in
    (cc, u)

print_node : (i : ℕ) (a b : Shape) (r : List ℕ) → shape_text (Node i a b) ++ r ≡ 40 ∷ (decimal i ++ 32 ∷ (shape_text a ++ 32 ∷ (shape_text b ++ 41 ∷ r)))
print_node i a b r = simp append_assoc

-- slots are numbers below 2 ^ 64
abbrev IsSmall : Shape → Type 0
IsSmall All = Unit {0}
IsSmall None = Unit {0}
IsSmall (Node i a b) = (i < 2 ^ 64) × IsSmall a × IsSmall b

abbrev pub head_of : List ℕ → ℕ
head_of [] = 0
head_of (x ∷ xs) = x

pub read_once : (a b : Shape) → IsSmall a → IsSmall b → (r s : List ℕ) → shape_text a ++ r ≡ shape_text b ++ s → (a ≡ b) × (r ≡ s)
read_once All All h k r s e = (refl, cc)
read_once All None h k r s e = let q : ◌≡◌ {A = ℕ} 116 102 = ap head_of e in absurd (omega (arith, q))
read_once All (Node i c d) h k r s e = let q : ◌≡◌ {A = ℕ} 116 40 = ap head_of e in absurd (omega (arith, q))
read_once None All h k r s e = let q : ◌≡◌ {A = ℕ} 102 116 = ap head_of e in absurd (omega (arith, q))
read_once None None h k r s e = (refl, cc)
read_once None (Node i c d) h k r s e = let q : ◌≡◌ {A = ℕ} 102 40 = ap head_of e in absurd (omega (arith, q))
read_once (Node i a b) All h k r s e = let q : ◌≡◌ {A = ℕ} 40 116 = ap head_of e in absurd (omega (arith, q))
read_once (Node i a b) None h k r s e = let q : ◌≡◌ {A = ℕ} 40 102 = ap head_of e in absurd (omega (arith, q))
read_once (Node i a b) (Node j c d) h k r s e =
    let e' = sym (print_node i a b r) ∙ e ∙ print_node j c d s in
    let t : decimal i ++ 32 ∷ (shape_text a ++ 32 ∷ (shape_text b ++ 41 ∷ r)) ≡ decimal j ++ 32 ∷ (shape_text c ++ 32 ∷ (shape_text d ++ 41 ∷ s)) = cc in
    let (p, u) = at_space (decimal i) (decimal j) _ _ (decimal_no_space i h.0) (decimal_no_space j k.0) t in
    let q = decimal_injective i j h.0 k.0 p in
    let (x, v) = read_once a c h.1 k.1 (32 ∷ (shape_text b ++ 41 ∷ r)) (32 ∷ (shape_text d ++ 41 ∷ s)) u in
    let v' : shape_text b ++ 41 ∷ r ≡ shape_text d ++ 41 ∷ s = cc in
    let (y, w) = read_once b d h.2 k.2 (41 ∷ r) (41 ∷ s) v' in
    (cc, cc)

-- ---- the shape tells the function

both_agree : (a b : Bool) → not (beq a b) ≡ false → a ≡ b
both_agree true true e = refl
both_agree true false e = e
both_agree false true e = sym e
both_agree false false e = refl

pub not_depends : (b : ℕ) (f : ℕ → Bool) → depends b f ≡ false → (m : ℕ) → m < b → f (2 * m + 1) ≡ f (2 * m)
unfolding depends
not_depends zero f e m l = absurd (omega (arith, l))
not_depends (suc b) f e m l =
    let r = or_parts (not (beq (f (2 * b + 1)) (f (2 * b)))) (depends b f) e in
    elim (cases_eq m b) [
      | inl q ↦ subst (λ i. f (2 * i + 1) ≡ f (2 * i)) (sym q) (both_agree (f (2 * b + 1)) (f (2 * b)) r.0)
      | inr q ↦ not_depends b f r.1 m (omega (arith, l, q))
    ]

IsSmall-cond : (c : Bool) (x y : Shape) → IsSmall x → IsSmall y → IsSmall (cond c x y)
IsSmall-cond true x y h k = h
IsSmall-cond false x y h k = k

small_shape : (k i : ℕ) (f : ℕ → Bool) → i + k ≤ 2 ^ 64 → IsSmall (shape k i f)
unfolding shape
small_shape zero i f l = IsSmall-cond (f 0) All None tt tt
small_shape (suc k) i f l =
    let y = small_shape k (suc i) (λ m. f (2 * m + 1)) (omega (arith, l)) in
    let n = small_shape k (suc i) (λ m. f (2 * m)) (omega (arith, l)) in
    let fits : i < 2 ^ 64 = omega (arith, l) in
    IsSmall-cond (depends (2 ^ k) f) _ _ (fits, y, n) n

-- the slots of a shape are at least its first
abbrev StartsAt : ℕ → Shape → Type 0
StartsAt i All = Unit {0}
StartsAt i None = Unit {0}
StartsAt i (Node j a b) = i ≤ j

StartsAt-less : (i : ℕ) (x : Shape) → StartsAt (suc i) x → StartsAt i x
StartsAt-less i All h = tt
StartsAt-less i None h = tt
StartsAt-less i (Node j a b) h = omega (arith, h)

StartsAt-cond : (i : ℕ) (c : Bool) (x y : Shape) → StartsAt i x → StartsAt i y → StartsAt i (cond c x y)
StartsAt-cond i true x y h k = h
StartsAt-cond i false x y h k = k

starts_at : (k i : ℕ) (f : ℕ → Bool) → StartsAt i (shape k i f)
unfolding shape
starts_at zero i f = StartsAt-cond i (f 0) All None tt tt
starts_at (suc k) i f = StartsAt-cond i (depends (2 ^ k) f) (Node i (shape k (suc i) (λ m. f (2 * m + 1))) (shape k (suc i) (λ m. f (2 * m))))
    (shape k (suc i) (λ m. f (2 * m))) (omega arith) (StartsAt-less i _ (starts_at k (suc i) (λ m. f (2 * m))))

no_node : (i : ℕ) (a b x : Shape) → StartsAt (suc i) x → Node i a b ≡ x → ⊥
no_node i a b x h e = omega (arith, subst (λ y. StartsAt (suc i) y) (sym e) h)

leaf : (a b : Bool) → cond a All None ≡ cond b All None → a ≡ b
leaf true true e = refl
leaf true false e = cc
leaf false true e = cc
leaf false false e = refl

-- the halves of a function
by_halves : (k : ℕ) (f g : ℕ → Bool) → ((m : ℕ) → m < k → f (2 * m) ≡ g (2 * m)) → ((m : ℕ) → m < k → f (2 * m + 1) ≡ g (2 * m + 1)) → (m : ℕ)
    → m < k * 2 → f m ≡ g m
by_halves k f g h u m l =
    let half : m / 2 < k = omega arith in
    elim (cases_eq (m % 2) 0) [
      | inl q ↦ let e : 2 * (m / 2) ≡ m = omega (arith, q) in subst (λ i. f i ≡ g i) e (h (m / 2) half)
      | inr q ↦ let e : 2 * (m / 2) + 1 ≡ m = omega (arith, q) in subst (λ i. f i ≡ g i) e (u (m / 2) half)
    ]

shape_step : (k i : ℕ) (p q : Bool) (f g : ℕ → Bool) → depends (2 ^ k) f ≡ p → depends (2 ^ k) g ≡ q
    → (shape k (suc i) (λ m. f (2 * m)) ≡ shape k (suc i) (λ m. g (2 * m)) → (m : ℕ) → m < 2 ^ k → f (2 * m) ≡ g (2 * m))
    → (shape k (suc i) (λ m. f (2 * m + 1)) ≡ shape k (suc i) (λ m. g (2 * m + 1)) → (m : ℕ) → m < 2 ^ k → f (2 * m + 1) ≡ g (2 * m + 1))
    → cond p (Node i (shape k (suc i) (λ m. f (2 * m + 1))) (shape k (suc i) (λ m. f (2 * m)))) (shape k (suc i) (λ m. f (2 * m)))
    ≡ cond q (Node i (shape k (suc i) (λ m. g (2 * m + 1))) (shape k (suc i) (λ m. g (2 * m)))) (shape k (suc i) (λ m. g (2 * m)))
    → (m : ℕ) → m < 2 ^ k * 2 → f m ≡ g m
shape_step k i true true f g d b h u e = by_halves (2 ^ k) f g (h cc) (u cc)
shape_step k i true false f g d b h u e = absurd (no_node i _ _ _ (starts_at k (suc i) (λ m. g (2 * m))) e)
shape_step k i false true f g d b h u e = absurd (no_node i _ _ _ (starts_at k (suc i) (λ m. f (2 * m))) (sym e))
shape_step k i false false f g d b h u e =
    by_halves (2 ^ k) f g (h e) (λ m l. not_depends (2 ^ k) f d m l ∙ h e m l ∙ sym (not_depends (2 ^ k) g b m l))

pub shape_tells : (k i : ℕ) (f g : ℕ → Bool) → shape k i f ≡ shape k i g → (m : ℕ) → m < 2 ^ k → f m ≡ g m
unfolding shape
shape_tells zero i f g e m l = let z : m ≡ 0 = omega (arith, l) in ap f z ∙ leaf (f 0) (g 0) e ∙ sym (ap g z)
shape_tells (suc k) i f g e m l =
    shape_step k i (depends (2 ^ k) f) (depends (2 ^ k) g) f g refl refl
    (shape_tells k (suc i) (λ m. f (2 * m)) (λ m. g (2 * m)))
    (shape_tells k (suc i) (λ m. f (2 * m + 1)) (λ m. g (2 * m + 1)))
    e m (subst (λ z. m < z) (pow-suc 2 k) l)

pub same_text : (n : ℕ) (xs ys : List ℕ) → n ≤ 64 → IsSet (2 ^ n) xs → IsSet (2 ^ n) ys → set_text n xs ≡ set_text n ys → xs ≡ ys
same_text n xs ys small p q e =
    let t : shape_text (shape n 1 (has xs)) ++ [] ≡ shape_text (shape n 1 (has ys)) ++ [] = ap (λ l. l ++ []) e in
    let r = read_once (shape n 1 (has xs)) (shape n 1 (has ys)) (small_shape n 1 (has xs) (omega arith)) (small_shape n 1 (has ys) (omega arith)) [] [] t in
    same_set (2 ^ n) xs ys p q (shape_tells n 1 (has xs) (has ys) r.0)

-- ---- `t` and `f`

agree_self : (b : Bool) → (not (beq b b) || false) ≡ false
agree_self true = refl
agree_self false = refl

agreeing : (b : ℕ) (f : ℕ → Bool) → ((m : ℕ) → m < b → f (2 * m + 1) ≡ f (2 * m)) → depends b f ≡ false
unfolding depends
agreeing zero f h = refl
agreeing (suc b) f h = rw (h b (omega arith), agreeing b f (λ m l. h m (omega arith))) (agree_self (f (2 * b)))

pub double_lt : (m q : ℕ) → m < q → (2 * m < q * 2) × (2 * m + 1 < q * 2)
double_lt m q l = (omega arith, omega arith)

-- a function that is the same at all assignments
module _ (c : Bool) where
  pub constant_shape : (k i : ℕ) (f : ℕ → Bool) → ((m : ℕ) → m < 2 ^ k → f m ≡ c) → shape k i f ≡ cond c All None
  unfolding shape
  constant_shape zero i f h = ap (λ b. cond b All None) (h 0 (omega arith))
  constant_shape (suc k) i f h =
      let even : (m : ℕ) → m < 2 ^ k → f (2 * m) ≡ c = λ m l. h (2 * m) (subst (λ z. 2 * m < z) (sym (pow-suc 2 k)) (double_lt m (2 ^ k) l).0) in
      let odd : (m : ℕ) → m < 2 ^ k → f (2 * m + 1) ≡ c = λ m l. h (2 * m + 1) (subst (λ z. 2 * m + 1 < z) (sym (pow-suc 2 k)) (double_lt m (2 ^ k) l).1) in
      let e : depends (2 ^ k) f ≡ false = agreeing (2 ^ k) f (λ m l. odd m l ∙ sym (even m l)) in
      rw e (constant_shape k (suc i) (λ m. f (2 * m)) even)

-- all assignments are printed as `t`
pub text_all : (n : ℕ) (xs : List ℕ) → ((m : ℕ) → m < 2 ^ n → has xs m ≡ true) → set_text n xs ≡ 116 ∷ []
text_all n xs h = ap shape_text (constant_shape true n 1 (has xs) h)

-- a function that depends on a slot differs at some assignment to the later slots
pub depends_of : (b : ℕ) (f : ℕ → Bool) → depends b f ≡ true → (m : ℕ) × (m < b) × (f (2 * m + 1) ≡ f (2 * m) → ⊥)
unfolding depends
depends_of zero f e = absurd (false≢true e)
depends_of (suc b) f e =
    elim (or_cases (not (beq (f (2 * b + 1)) (f (2 * b)))) (depends b f) e) [
      | inl h ↦ (b, omega arith, λ q. absurd (differ (f (2 * b + 1)) (f (2 * b)) h q))
      | inr h ↦ let (m, l, k) = depends_of b f h in (m, omega arith, k)
    ]
  where
    differ : (x y : Bool) → not (beq x y) ≡ true → x ≡ y → ⊥
    differ true y e q = false≢true (subst (λ z. not (beq true z) ≡ true) (sym q) e)
    differ false y e q = false≢true (subst (λ z. not (beq false z) ≡ true) (sym q) e)

example : set_text 2 (1 ∷ 3 ∷ []) ≡ codes "(1 t f)"
unfolding shape depends
example = ap (λ d. 40 ∷ (d ++ 32 ∷ 116 ∷ 32 ∷ 102 ∷ 41 ∷ [])) (decimal_digit 1 (omega arith))
