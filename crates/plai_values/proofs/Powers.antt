-- Powers, and products with powers of two, beyond 128 bits.
use Rattle.std.proofs.Common.{◌≡◌, ◌<◌, ◌≤◌, ◌+◌, ◌-◌, ◌*◌, ◌/◌, ◌%◌, ◌^◌, ◌==◌, ℕ, zero, suc, ℤ, pos, negsuc, ◌*ℤ◌, neg_ℤ, unsigned_abs, int_lt, Bool, true}
use Rattle.std.proofs.Common.{false, cond, if◌then◌else◌, nat_lt, Option, None, SomeIff, arith, refl, ap, sym, ◌∙◌, subst, FitsSigned}
use Rattle.std.specs.Int.{w128, int_pow}
use Rattle.std.proofs.lemmas.Bool.{ltb-false}
use Rattle.std.proofs.lemmas.Int.{to_z-of_z}
use Rattle.std.proofs.lemmas.Nat.{pow-add}
use Rattle.std.proofs.Math.Nat.{zero-mul, mul-suc, pow-suc, mul_assoc, pow-le-pow_left, pow-le-pow_right}
use lib.Signed.{mag}
use lib.Pow.{pow_pos}
use Rattle.plai_values.specs.Values.{in_range, times_power_of_two, power}
use Rattle.plai_values.specs.Small.{small_exponent}
use Rattle.plai_values.proofs.Ranges.{read, some_in_range, in_range_not, out_of_range}

-- ---- products

mag-neg : (m : ℕ) → mag (neg_ℤ (pos m)) ≡ m - 1
mag-neg zero = refl
mag-neg (suc m) = omega arith

neg_times : (k n : ℕ) → neg_ℤ (pos k) *ℤ pos n ≡ neg_ℤ (pos (k * n))
neg_times zero n = ap pos (zero-mul n) ∙ ap (λ k. neg_ℤ (pos k)) (sym (zero-mul n))
neg_times (suc k) n = refl

times_times : (z : ℤ) (m n : ℕ) → (z *ℤ pos m) *ℤ pos n ≡ z *ℤ pos (m * n)
times_times (pos a) m n = ap pos (mul_assoc a m n)
times_times (negsuc a) m n = neg_times (suc a * m) n ∙ ap (λ k. neg_ℤ (pos k)) (mul_assoc (suc a) m n)

grows : (a n : ℕ) → a ≤ a * suc n
grows a n = omega (arith, mul-suc a n)

-- a factor is within the range of a product
factor_fits : (z : ℤ) (n : ℕ) → 0 < n → FitsSigned w128 (z *ℤ pos n) → FitsSigned w128 z
factor_fits z zero p f = absurd (omega arith)
factor_fits (pos a) (suc n) p f = let l : a * suc n < 2 ^ 127 = f.sfits in record { sfits = omega (arith, grows a n) }
factor_fits (negsuc a) (suc n) p f =
    let l : mag (neg_ℤ (pos (suc a * suc n))) < 2 ^ 127 = f.sfits in
    record { sfits = omega (arith, grows (suc a) n, mag-neg (suc a * suc n)) }

halves : (k : ℕ) → 2 ^ (k / 2) * 2 ^ (k - k / 2) ≡ 2 ^ k
halves k = sym (pow-add 2 (k / 2) (k - k / 2)) ∙ ap (λ n. 2 ^ n) (omega arith)

module _ (z : ℤ) (k : ℕ) (f : FitsSigned w128 z) (h g : ℤ)
    (eh : h ≡ pos (2 ^ (k / 2))) (fh : FitsSigned w128 h) where
  product : read z *ℤ read h ≡ z *ℤ pos (2 ^ (k / 2))
  product = ap (λ a. a *ℤ read h) (to_z-of_z w128 z f) ∙ ap (λ a. z *ℤ a) (to_z-of_z w128 h fh ∙ eh)

  whole : (z *ℤ pos (2 ^ (k / 2))) *ℤ pos (2 ^ (k - k / 2)) ≡ times_power_of_two z k
  whole = times_times z (2 ^ (k / 2)) (2 ^ (k - k / 2)) ∙ ap (λ n. z *ℤ pos n) (halves k)

  pub first_not : (FitsSigned w128 (read z *ℤ read h) → ⊥) → None ≡ in_range (times_power_of_two z k)
  first_not n = in_range_not (times_power_of_two z k) (λ w.
      let two : FitsSigned w128 ((z *ℤ pos (2 ^ (k / 2))) *ℤ pos (2 ^ (k - k / 2))) = subst (FitsSigned w128) (sym whole) w in
      let one = factor_fits (z *ℤ pos (2 ^ (k / 2))) (2 ^ (k - k / 2)) (pow_pos (k - k / 2)) two in
      n (subst (FitsSigned w128) (sym product) one))

  pub both : (p : ℤ) → FitsSigned w128 p → p ≡ read z *ℤ read h → g ≡ pos (2 ^ (k - k / 2)) → FitsSigned w128 g
      → (r : Option ℤ) → SomeIff r (FitsSigned w128 (read p *ℤ read g)) (read p *ℤ read g) → r ≡ in_range (times_power_of_two z k)
  both p fp ep eg fg r s =
      some_in_range (read p *ℤ read g) r s
      ∙ ap in_range
      (ap (λ a. a *ℤ read g) (to_z-of_z w128 p fp ∙ ep ∙ product)
      ∙ ap (λ a. (z *ℤ pos (2 ^ (k / 2))) *ℤ a) (to_z-of_z w128 g fg ∙ eg) ∙ whole)

-- ---- powers

one_pow : (e : ℕ) → 1 ^ e ≡ 1
one_pow zero = refl
one_pow (suc e) = pow-suc 1 e ∙ ap (λ n. n * 1) (one_pow e)

zero_pow : (e : ℕ) → 0 < e → 0 ^ e ≡ 0
zero_pow zero h = absurd (omega arith)
zero_pow (suc e) h = pow-suc 0 e ∙ omega arith

far : (n e : ℕ) → 128 ≤ e → 2 ^ 128 ≤ suc (suc n) ^ e
far n e h = let a : 2 ^ 128 ≤ 2 ^ e = pow-le-pow_right (omega arith) h in let b : 2 ^ e ≤ suc (suc n) ^ e = pow-le-pow_left (omega arith) e in omega arith

far_from : (m : ℕ) (b : Bool) → 2 ^ 128 ≤ m → in_range (cond b (pos m) (neg_ℤ (pos m))) ≡ None
far_from m true h = out_of_range (pos m) (omega arith)
far_from m false h = out_of_range (neg_ℤ (pos m)) (omega (arith, mag-neg m))

-- of exponents from 128 on, those that are both even or both odd give the same
same_power : (x : ℤ) (d e : ℕ) → 128 ≤ d → 128 ≤ e → d % 2 ≡ e % 2 → in_range (int_pow x d) ≡ in_range (int_pow x e)
same_power (pos zero) d e h k p = ap (λ n. in_range (pos n)) (zero_pow d (omega arith) ∙ sym (zero_pow e (omega arith)))
same_power (pos (suc zero)) d e h k p = ap (λ n. in_range (pos n)) (one_pow d ∙ sym (one_pow e))
same_power (pos (suc (suc n))) d e h k p =
    out_of_range (pos (suc (suc n) ^ d)) (omega (arith, far n d h)) ∙ sym (out_of_range (pos (suc (suc n) ^ e)) (omega (arith, far n e k)))
same_power (negsuc zero) d e h k p =
    ap (λ n. in_range (cond (d % 2 == 0) (pos n) (neg_ℤ (pos n)))) (one_pow d ∙ sym (one_pow e))
    ∙ ap (λ b. in_range (cond (b == 0) (pos (1 ^ e)) (neg_ℤ (pos (1 ^ e))))) p
same_power (negsuc (suc n)) d e h k p = far_from (suc (suc n) ^ d) (d % 2 == 0) (far n d h) ∙ sym (far_from (suc (suc n) ^ e) (e % 2 == 0) (far n e k))

small_power : (x : ℤ) (e : ℕ) (b : Bool) → nat_lt e 128 ≡ b → in_range (int_pow x (if b then e else 128 + e % 2)) ≡ in_range (int_pow x e)
small_power x e true h = refl
small_power x e false h = same_power x (128 + e % 2) e (omega arith) (omega (arith, ltb-false e 128 h)) (omega arith)

at_exponent : (x y : ℤ) → int_lt y (pos 0) ≡ false → in_range (int_pow x (small_exponent (unsigned_abs y))) ≡ power x y
at_exponent x (pos e) h = small_power x e (nat_lt e 128) refl
at_exponent x (negsuc e) h = cc

pub power_answer : (x y : ℤ) (k : ℕ) (r : Option ℤ) → FitsSigned w128 x → FitsSigned w128 y
    → SomeIff r (FitsSigned w128 (int_pow (read x) k)) (int_pow (read x) k) → k ≡ small_exponent (unsigned_abs (read y)) → int_lt (read y) (pos 0) ≡ false
    → r ≡ power x y
power_answer x y k r f g s e h =
    some_in_range (int_pow (read x) k) r s
    ∙ ap (λ a. in_range (int_pow a k)) (to_z-of_z w128 x f)
    ∙ ap (λ n. in_range (int_pow x n)) (e ∙ ap (λ a. small_exponent (unsigned_abs a)) (to_z-of_z w128 y g))
    ∙ at_exponent x y (ap (λ a. int_lt a (pos 0)) (sym (to_z-of_z w128 y g)) ∙ h)
