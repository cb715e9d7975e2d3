-- Numbers of rows before and after one of them goes.
use Rattle.std.proofs.Common.{◌≡◌, ◌≢◌, ℕ, ◌<◌, ◌≤◌, Bool, true, false, cond, nat_eq, eqb-true, nat_lt, Option, Some, None, IfSome, sym, refl, ap, ◌∙◌, subst}
use Rattle.std.proofs.Common.{arith}
use Rattle.std.proofs.lemmas.Bool.{eq-eqb, lt-ltb, le-ltb, ltb-true, ltb-false}
use Rattle.plai_theory.specs.Words.{given}
use Rattle.plai_theory.proofs.Options.{by_test}
use Rattle.plai_arcs.specs.Moves.{was, of_row}

-- what a renumbering after another one gives
abbrev pub after : Option ℕ → (ℕ → Option ℕ) → Option ℕ
after o had = given None had o

pub at_after : {A : Type 0} (o : Option ℕ) (had : ℕ → Option ℕ) (f : ℕ → Option A) → given None (λ b. given None f (had b)) o ≡ given None f (after o had)
at_after None had f = refl
at_after (Some b) had f = refl

pub of_after : (o : Option ℕ) (had : ℕ → Option ℕ) (t : ℕ → Bool) → of_row o (λ b. of_row (had b) t) ≡ of_row (after o had) t
of_after None had t = refl
of_after (Some b) had t = refl

pub of_same : (o : Option ℕ) (t u : ℕ → Bool) → ((b : ℕ) → t b ≡ u b) → of_row o t ≡ of_row o u
of_same None t u same = refl
of_same (Some b) t u same = same b

pub given_same : {A : Type 0} (o : Option ℕ) (f g : ℕ → Option A) → ((b : ℕ) → f b ≡ g b) → given None f o ≡ given None g o
given_same None f g same = refl
given_same (Some b) f g same = same b

pub of_swap : (o p : Option ℕ) (t : ℕ → ℕ → Bool) → of_row o (λ b. of_row p (t b)) ≡ of_row p (λ d. of_row o (λ b. t b d))
of_swap None None t = refl
of_swap None (Some d) t = refl
of_swap (Some b) None t = refl
of_swap (Some b) (Some d) t = refl

pub other_is : (k row : ℕ) → nat_eq k row ≡ false → k ≢ row
other_is k row t e = let u : nat_eq k row ≡ true = eq-eqb k row e in cc

pub is_other : (k row : ℕ) → k ≢ row → nat_eq k row ≡ false
is_other k row no_ = by_test (nat_eq k row) (λ t. absurd (no_ (eqb-true k row t))) (λ t. t)

-- numbers before and after
pub was_moved : (row last : ℕ) → was row (Some last) row ≡ Some last
was_moved row last = let t = eq-eqb row row refl in rw t refl

pub was_last : (row last : ℕ) → row < last → was row (Some last) last ≡ None
was_last row last h = let t = is_other last row (λ e. omega (arith, h, e)) in let u = eq-eqb last last refl in rw (t, u) refl

pub was_else : (row last k : ℕ) → k ≢ row → k ≢ last → was row (Some last) k ≡ Some k
was_else row last k n m = let t = is_other k row n in let u = is_other k last m in rw (t, u) refl

pub was_gone : (row : ℕ) → was row None row ≡ None
was_gone row = let t = eq-eqb row row refl in rw t refl

pub was_there : (row k : ℕ) → k ≢ row → was row None k ≡ Some k
was_there row k n = let t = is_other k row n in rw t refl

abbrev pub Less : ℕ → Option ℕ → Type 0
Less row moved = IfSome moved (λ last. row < last)

abbrev pub back : ℕ → Option ℕ → ℕ → ℕ
back row None b = b
back row (Some last) b = cond (nat_eq b last) row b

-- a number before, by the number now
pub was_back : (row : ℕ) (moved : Option ℕ) → Less row moved → (k b : ℕ) → was row moved k ≡ Some b → (k ≡ back row moved b) × (b ≢ row)
was_back row None h k b e =
    by_test (nat_eq k row)
    (λ t. let u : was row None k ≡ None = ap (was row None) (eqb-true k row t) ∙ was_gone row in cc)
    (λ t. let n = other_is k row t in let u = was_there row k n in let same : k ≡ b = cc in (same, λ f. n (same ∙ f)))
was_back row (Some last) h k b e =
    let less : row < last = h in
    by_test (nat_eq k row)
    (λ t. let at = eqb-true k row t in let u : was row (Some last) k ≡ Some last = ap (was row (Some last)) at ∙ was_moved row last in
    let same : last ≡ b = cc in let v = eq-eqb b last (sym same) in
    (at ∙ sym (ap (λ (x : Bool). cond {A = ℕ} x row b) v), λ f. omega (arith, less, same, f)))
    (λ t. by_test (nat_eq k last)
    (λ w. let u : was row (Some last) k ≡ None = ap (was row (Some last)) (eqb-true k last w) ∙ was_last row last h in cc)
    (λ w. let n = other_is k row t in let m = other_is k last w in let u = was_else row last k n m in let same : k ≡ b = cc in
    let v = is_other b last (λ f. m (same ∙ f)) in
    (same ∙ sym (ap (λ (x : Bool). cond {A = ℕ} x row b) v), λ f. n (same ∙ f))))

pub was_onto : (row : ℕ) (moved : Option ℕ) → Less row moved → (b : ℕ) → b ≢ row → (k : ℕ) × (was row moved k ≡ Some b)
was_onto row None h b n = (b, was_there row b n)
was_onto row (Some last) h b n =
    by_test (nat_eq b last) (λ t. (row, was_moved row last ∙ ap Some (sym (eqb-true b last t))))
    (λ t. (b, was_else row last b n (other_is b last t)))

pub was_below : (row : ℕ) (moved : Option ℕ) → Less row moved → (k : ℕ) → k < row → was row moved k ≡ Some k
was_below row None h k l = was_there row k (λ e. omega (arith, l, e))
was_below row (Some last) h k l = let less : row < last = h in was_else row last k (λ e. omega (arith, l, e)) (λ e. omega (arith, l, less, e))

pub of_both : (o : Option ℕ) (had : ℕ → Option ℕ) (j : ℕ) → after o had ≡ Some j → (b : ℕ) × (o ≡ Some b) × (had b ≡ Some j)
of_both None had j e = let none : ⊥ = cc in absurd none
of_both (Some b) had j e = (b, refl, e)

-- nothing is removed at first
abbrev pub same_numbers : ℕ → ℕ → Option ℕ
same_numbers size k = cond (nat_lt k size) (Some k) None

pub same_at : (size k : ℕ) → k < size → same_numbers size k ≡ Some k
same_at size k h = ap (λ (b : Bool). cond {A = Option ℕ} b (Some k) None) (lt-ltb k size h)

pub same_past : (size k : ℕ) → size ≤ k → same_numbers size k ≡ None
same_past size k h = ap (λ (b : Bool). cond {A = Option ℕ} b (Some k) None) (le-ltb k size h)

pub same_is : (size k j : ℕ) → same_numbers size k ≡ Some j → (k ≡ j) × (j < size)
same_is size k j e =
    by_test (nat_lt k size)
    (λ t. let h = ltb-true k size t in let u = same_at size k h in let same : k ≡ j = cc in (same, subst (λ (n : ℕ). n < size) same h))
    (λ t. let u = same_past size k (ltb-false k size t) in cc)

pub of_numbers : (size r : ℕ) (t : ℕ → Bool) → (t r ≡ true → r < size) → t r ≡ of_row (same_numbers size r) t
of_numbers size r t within =
    by_test (nat_lt r size) (λ h. sym (ap (λ o. of_row o t) (same_at size r (ltb-true r size h))))
    (λ h. let past = ltb-false r size h in
    by_test (t r) (λ e. let w = within e in absurd (omega (arith, w, past)))
    (λ e. e ∙ sym (ap (λ o. of_row o t) (same_past size r past))))
