-- Texts that are read in one way: a front without delimiters, the digits of a number, and the bytes between quotes.
use Rattle.std.proofs.Common.{◌≡◌, ℕ, ℤ, pos, negsuc, suc, ◌+◌, ◌*◌, ◌-◌, ◌/◌, ◌%◌, ◌^◌, ◌<◌, Bool, true, false, ◌&&◌, ◌||◌, not, cond, eqb, ltb, List, []}
use Rattle.std.proofs.Common.{◌∷◌, ◌++◌, length, get_or, drop, refl, sym, ap, ◌∙◌, arith, append_assoc, codes}
use Rattle.std.specs.Fmt.{decimal, signed_decimal}
use Rattle.std.specs.List.{list_any, list_all, flat_map}
use Rattle.std.specs.Str.Parse.{digits_value}
use Rattle.std.proofs.lemmas.Bool.{false≢true, eqb-true}
use Rattle.std.proofs.lemmas.Bool.Decides.{nat_tests}
use Rattle.std.proofs.lemmas.Fmt.{decimal_by_steps_wide, decimal_is_IsNumeral_wide}
use Rattle.plai_terms.specs.Atom.{hex_digit, hex_text, escaped}
use Rattle.plai_terms.proofs.Same.{both}

-- nothing, or a delimiter first
abbrev pub stops : (ℕ → Bool) → List ℕ → Bool
stops d [] = true
stops d (c ∷ cs) = d c

abbrev pub is_free : (ℕ → Bool) → List ℕ → Bool
is_free d xs = list_all (λ c. not (d c)) xs

not_both : (b : Bool) → b ≡ true → not b ≡ true → ⊥
not_both true e h = false≢true h
not_both false e h = false≢true e

-- two fronts without delimiters, up to delimiters
pub same_fronts : (d : ℕ → Bool) (xs ys us vs : List ℕ) → is_free d xs ≡ true → is_free d ys ≡ true → stops d us ≡ true → stops d vs ≡ true
    → xs ++ us ≡ ys ++ vs
    → (xs ≡ ys) × (us ≡ vs)
same_fronts d [] [] us vs h k s t e = (refl, e)
same_fronts d [] (y ∷ ys) us vs h k s t e =
    let y_stops : d y ≡ true = ap (stops d) (sym e) ∙ s in
    let y_goes = both (not (d y)) (is_free d ys) k in
    absurd (not_both (d y) y_stops y_goes.0)
same_fronts d (x ∷ xs) [] us vs h k s t e =
    let x_stops : d x ≡ true = ap (stops d) e ∙ t in
    let x_goes = both (not (d x)) (is_free d xs) h in
    absurd (not_both (d x) x_stops x_goes.0)
same_fronts d (x ∷ xs) (y ∷ ys) us vs h k s t e =
    let q : x ≡ y = cc in
    let f : xs ++ us ≡ ys ++ vs = cc in
    let (p, u) = same_fronts d xs ys us vs (both (not (d x)) (is_free d xs) h).1 (both (not (d y)) (is_free d ys) k).1 s t f in
    (cc, u)

-- a test that each of some numbers passes
pub member : (f : ℕ → Bool) (ss : List ℕ) (c : ℕ) → list_all f ss ≡ true → list_any (λ s. eqb s c) ss ≡ true → f c ≡ true
member f [] c h e = absurd (false≢true e)
member f (s ∷ ss) c h e =
    let b = both (f s) (list_all f ss) h in
    elim (eqb s c) as (λ v. eqb s c ≡ v → (v || list_any (λ s. eqb s c) ss) ≡ true → f c ≡ true) [
      | true ↦ λ q r. ap f (sym (eqb-true s c q)) ∙ b.0
      | false ↦ λ q r. member f ss c b.1 r
    ] refl e

pub apart_by : (p q : Bool) → (q ≡ true → not p ≡ true) → p ≡ true → q ≡ false
apart_by p true h e = absurd (not_both p e (h refl))
apart_by p false h e = refl

-- what passes a test is not what doesn't
pub not_this : (f : ℕ → Bool) (s c : ℕ) → f s ≡ false → f c ≡ true → eqb s c ≡ false
not_this f s c h e = apart_by (f c) (eqb s c) (λ q. ap not (ap f (sym (eqb-true s c q)) ∙ h)) e

-- what passes a test is none of some numbers that don't
pub no_member : (f : ℕ → Bool) (ss : List ℕ) (c : ℕ) → list_all (λ s. not (f s)) ss ≡ true → f c ≡ true → list_any (λ s. eqb s c) ss ≡ false
no_member f ss c h e = apart_by (f c) (list_any (λ s. eqb s c) ss) (member (λ s. not (f s)) ss c h) e

-- ---- numbers

abbrev pub is_digit : ℕ → Bool
is_digit c = not (ltb c 48) && ltb c 58

abbrev pub no_digit : ℕ → Bool
no_digit c = not (is_digit c)

pub digit_is : (n : ℕ) → n < 10 → is_digit (48 + n) ≡ true
digit_is n l = grind (arith, nat_tests)

free_push : (d : ℕ → Bool) (xs : List ℕ) (x : ℕ) → is_free d xs ≡ true → not (d x) ≡ true → is_free d (xs ++ x ∷ []) ≡ true
free_push d [] x h k = ap (λ b. b && true) k
free_push d (y ∷ ys) x h k =
    let b = both (not (d y)) (is_free d ys) h in
    ap (λ b. b && is_free d (ys ++ x ∷ [])) b.0 ∙ free_push d ys x b.1 k

pub not_not : (b : Bool) → b ≡ true → not (not b) ≡ true
not_not true e = refl
not_not false e = e

pub digits_alone : (n : ℕ) → n < 10 ^ 64 → is_free no_digit (decimal n) ≡ true
digits_alone n l =
    decimal_by_steps_wide (λ m ds. is_free no_digit ds ≡ true)
    (λ m h. ap (λ b. b && true) (not_not (is_digit (48 + m)) (digit_is m h)))
    (λ m ds h k. free_push no_digit ds (48 + m % 10) k (not_not (is_digit (48 + m % 10)) (digit_is (m % 10) (omega arith))))
    n l

abbrev pub first_of : List ℕ → ℕ
first_of [] = 0
first_of (x ∷ xs) = x

goes_digit : (b : Bool) → not (not b) ≡ true → b ≡ true
goes_digit true e = refl
goes_digit false e = e

first_digit_of : (ds us : List ℕ) → 0 < length ds → is_free no_digit ds ≡ true → is_digit (first_of (ds ++ us)) ≡ true
first_digit_of [] us l h = absurd (omega (arith, l))
first_digit_of (c ∷ cs) us l h = goes_digit (is_digit c) (both (not (no_digit c)) (is_free no_digit cs) h).0

pub first_digit : (n : ℕ) (us : List ℕ) → n < 10 ^ 64 → is_digit (first_of (decimal n ++ us)) ≡ true
first_digit n us l = first_digit_of (decimal n) us (decimal_is_IsNumeral_wide n l).0.0 (digits_alone n l)

pub decimals_apart : (m n : ℕ) (us vs : List ℕ) → m < 10 ^ 64 → n < 10 ^ 64 → stops no_digit us ≡ true → stops no_digit vs ≡ true
    → decimal m ++ us ≡ decimal n ++ vs
    → (m ≡ n) × (us ≡ vs)
decimals_apart m n us vs l k s t e =
    let (p, q) = same_fronts no_digit (decimal m) (decimal n) us vs (digits_alone m l) (digits_alone n k) s t e in
    (sym (decimal_is_IsNumeral_wide m l).1 ∙ ap (digits_value 10) p ∙ (decimal_is_IsNumeral_wide n k).1, q)

-- an integer whose decimals are fewer than 64
abbrev pub is_short : ℤ → Type 0
is_short (pos n) = n < 10 ^ 64
is_short (negsuc n) = suc n < 10 ^ 64

no_minus : (n : ℕ) (us vs : List ℕ) → n < 10 ^ 64 → decimal n ++ us ≡ 45 ∷ vs → ⊥
no_minus n us vs l e =
    let d : is_digit (first_of (decimal n ++ us)) ≡ true = first_digit n us l in
    let f : is_digit (first_of (decimal n ++ us)) ≡ is_digit 45 = ap (λ x. is_digit (first_of x)) e in
    false≢true (sym f ∙ d)

pub integers_apart : (y z : ℤ) (us vs : List ℕ) → is_short y → is_short z → stops no_digit us ≡ true → stops no_digit vs ≡ true
    → signed_decimal y ++ us ≡ signed_decimal z ++ vs
    → (y ≡ z) × (us ≡ vs)
integers_apart (pos m) (pos n) us vs l k s t e = let (p, q) = decimals_apart m n us vs l k s t e in (ap pos p, q)
integers_apart (pos m) (negsuc n) us vs l k s t e = absurd (no_minus m us (decimal (suc n) ++ vs) l e)
integers_apart (negsuc m) (pos n) us vs l k s t e = absurd (no_minus n vs (decimal (suc m) ++ us) k (sym e))
integers_apart (negsuc m) (negsuc n) us vs l k s t e =
    let f : decimal (suc m) ++ us ≡ decimal (suc n) ++ vs = cc in
    let (p, q) = decimals_apart (suc m) (suc n) us vs l k s t f in
    let r : m ≡ n = omega (arith, p) in
    (ap negsuc r, q)

-- ---- bytes between quotes

abbrev digit_value : ℕ → ℕ
digit_value h = cond (ltb h 58) (h - 48) (h - 87)

abbrev after_letter : List ℕ → ℕ × List ℕ
after_letter cs = (16 * digit_value (get_or cs 0 0) + digit_value (get_or cs 1 0), drop 3 cs)

abbrev after_backslash : List ℕ → ℕ × List ℕ
after_backslash [] = (0, [])
after_backslash (c ∷ cs) = cond (eqb c 92) (92, cs) (cond (eqb c 110) (10, cs) (after_letter cs))

-- one byte between quotes, and what follows
abbrev unescaped : List ℕ → ℕ × List ℕ
unescaped [] = (0, [])
unescaped (c ∷ cs) = cond (eqb c 39) (39, drop 1 cs) (cond (eqb c 92) (after_backslash cs) (c, cs))

hex_value : (n : ℕ) → n < 16 → digit_value (hex_digit n) ≡ n
hex_value n l = grind (arith, nat_tests)

unescaped-hex : (x : ℕ) (r : List ℕ) → x < 256 → unescaped (hex_text x ++ r) ≡ (x, r)
unescaped-hex x r l =
    let h : digit_value (hex_digit (x / 16)) ≡ x / 16 = hex_value (x / 16) (omega arith) in
    let k : digit_value (hex_digit (x % 16)) ≡ x % 16 = hex_value (x % 16) (omega arith) in
    let e : 16 * digit_value (hex_digit (x / 16)) + digit_value (hex_digit (x % 16)) ≡ x = omega arith in
    λ i. (e i, r)

small_or : (x : ℕ) → (ltb x 32 || eqb x 127) ≡ true → x < 256
small_or x e = grind (arith, nat_tests)

last_choice : (x : ℕ) (r : List ℕ) (b : Bool) → (ltb x 32 || eqb x 127) ≡ b → eqb x 39 ≡ false → eqb x 92 ≡ false
    → unescaped (cond b (hex_text x) (x ∷ []) ++ r) ≡ (x, r)
last_choice x r true e p q = unescaped-hex x r (small_or x e)
last_choice x r false e p q =
    ap (λ b. cond b (39, drop 1 r) (cond (eqb x 92) (after_backslash r) (x, r))) p ∙ ap (λ b. cond b (after_backslash r) (x, r)) q

third_choice : (x : ℕ) (r : List ℕ) (b : Bool) → eqb x 10 ≡ b → eqb x 39 ≡ false → eqb x 92 ≡ false
    → unescaped (cond b (codes "\\n") (cond (ltb x 32 || eqb x 127) (hex_text x) (x ∷ [])) ++ r) ≡ (x, r)
third_choice x r true e p q = let n : 10 ≡ x = sym (eqb-true x 10 e) in λ i. (n i, r)
third_choice x r false e p q = last_choice x r (ltb x 32 || eqb x 127) refl p q

second_choice : (x : ℕ) (r : List ℕ) (b : Bool) → eqb x 92 ≡ b → eqb x 39 ≡ false
    → unescaped (cond b (codes "\\\\") (cond (eqb x 10) (codes "\\n") (cond (ltb x 32 || eqb x 127) (hex_text x) (x ∷ []))) ++ r) ≡ (x, r)
second_choice x r true e p = let n : 92 ≡ x = sym (eqb-true x 92 e) in λ i. (n i, r)
second_choice x r false e p = third_choice x r (eqb x 10) refl p e

first_choice : (x : ℕ) (r : List ℕ) (b : Bool) → eqb x 39 ≡ b
    → unescaped (cond b (codes "''") (cond (eqb x 92)
    (codes "\\\\") (cond (eqb x 10) (codes "\\n") (cond (ltb x 32 || eqb x 127) (hex_text x) (x ∷ [])))) ++ r) ≡ (x, r)
first_choice x r true e = let n : 39 ≡ x = sym (eqb-true x 39 e) in λ i. (n i, r)
first_choice x r false e = second_choice x r (eqb x 92) refl e

pub unescaped-escaped : (x : ℕ) (r : List ℕ) → unescaped (escaped x ++ r) ≡ (x, r)
unescaped-escaped x r = first_choice x r (eqb x 39) refl

-- an end quote isn't the front of a byte
quote_alone : (y : ℕ) (us r : List ℕ) → 39 ∷ us ≡ escaped y ++ r → first_of us ≡ 39
quote_alone y us r e =
    let q : (39, drop 1 us) ≡ (y, r) = ap unescaped e ∙ unescaped-escaped y r in
    let n : 39 ≡ y = ap (λ p. p.0) q in
    let f : 39 ∷ us ≡ 39 ∷ 39 ∷ r = e ∙ ap (λ z. escaped z ++ r) (sym n) in
    ap first_of (ap (drop 1) f)

-- names between quotes, up to what doesn't begin with a quote
pub quoted_apart : (xs ys us vs : List ℕ) → (first_of us ≡ 39 → ⊥) → (first_of vs ≡ 39 → ⊥) → flat_map escaped xs ++ 39 ∷ us ≡ flat_map escaped ys ++ 39 ∷ vs
    → (xs ≡ ys) × (us ≡ vs)
quoted_apart [] [] us vs s t e = (refl, cc)
quoted_apart [] (y ∷ ys) us vs s t e = absurd
    (s (quote_alone y us (flat_map escaped ys ++ 39 ∷ vs) (e ∙ append_assoc (escaped y) (flat_map escaped ys) (39 ∷ vs))))
quoted_apart (x ∷ xs) [] us vs s t e = absurd
    (t (quote_alone x vs (flat_map escaped xs ++ 39 ∷ us) (sym e ∙ append_assoc (escaped x) (flat_map escaped xs) (39 ∷ us))))
quoted_apart (x ∷ xs) (y ∷ ys) us vs s t e =
    let r : List ℕ = flat_map escaped xs ++ 39 ∷ us in
    let r' : List ℕ = flat_map escaped ys ++ 39 ∷ vs in
    let f : escaped x ++ r ≡ escaped y ++ r' =
    sym (append_assoc (escaped x) (flat_map escaped xs) (39 ∷ us)) ∙ e ∙ append_assoc (escaped y) (flat_map escaped ys) (39 ∷ vs) in
    let q : (x, r) ≡ (y, r') = sym (unescaped-escaped x r) ∙ ap unescaped f ∙ unescaped-escaped y r' in
    let n : x ≡ y = ap (λ p. p.0) q in
    let (p, u) = quoted_apart xs ys us vs s t (ap (λ p. p.1) q) in
    (λ i. n i ∷ p i, u)
