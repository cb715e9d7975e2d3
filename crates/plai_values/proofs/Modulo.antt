-- What the quotient rounded down leaves, by what the quotient rounded towards zero leaves.
use Rattle.std.proofs.Common.{◌≡◌, ◌≢◌, nat_lt, ◌<◌, ◌-◌, ◌%◌, ℕ, zero, suc, ℤ, pos, negsuc, ◌+ℤ◌, neg_ℤ, int_rem, int_lt, Bool, true, false, arith, refl, ap}
use Rattle.std.proofs.Common.{sym, ◌∙◌, subst}
use Rattle.std.specs.Ordering.{int_eq}
use Rattle.std.proofs.lemmas.Bool.{ltb-true, ltb-false}
use Rattle.std.proofs.lemmas.Bool.Decides.{nat_tests}
use Rattle.std.proofs.lemmas.Int.{ints}
use Rattle.std.proofs.Math.Nat.{suc-mod, mod_self, mod-lt, mod-eq_of_lt}
use mathlib.Core.Bool.{beq}
use Rattle.plai_values.specs.Values.{modulo}

-- what is left of a, and of one more, by a divisor of one more than n
data Next (n q r : ℕ) : Type 0 where
  Less : r ≡ suc q → q < n → Next n q r
  Divided : r ≡ 0 → q ≡ n → Next n q r

next : (a n : ℕ) → Next n (a % suc n) (suc a % suc n)
next a n = at (a % suc n) (nat_lt (a % suc n) n) refl (mod-lt a (omega arith)) (suc-mod a (suc n))
  where
    at : (q : ℕ) (b : Bool) → nat_lt q n ≡ b → q < suc n → suc a % suc n ≡ suc q % suc n → Next n q (suc a % suc n)
    at q true t h e = let l : q < n = ltb-true q n t in Less (e ∙ mod-eq_of_lt (omega arith)) l
    at q false t h e =
        let l : q ≡ n = omega (arith, ltb-false q n t) in
        Divided (e ∙ subst (λ k. suc k % suc n ≡ 0) (sym l) (mod_self (suc n))) l

left_pos_pos : (a n : ℕ) → modulo (pos a) (pos (suc n)) ≡ pos (a % suc n)
left_pos_pos a n = omega (arith, ints)

left_neg_pos : (a n : ℕ) → modulo (negsuc a) (pos (suc n)) ≡ pos (n - a % suc n)
left_neg_pos a n = omega (arith, ints)

left_zero_neg : (n : ℕ) → modulo (pos 0) (negsuc n) ≡ pos 0
left_zero_neg n = omega (arith, ints)

left_pos_neg : (a n : ℕ) → modulo (pos (suc a)) (negsuc n) ≡ neg_ℤ (pos (n - a % suc n))
left_pos_neg a n = omega (arith, ints)

left_neg_neg : (a n : ℕ) → modulo (negsuc a) (negsuc n) ≡ neg_ℤ (pos (suc a % suc n))
left_neg_neg a n = omega (arith, ints)

none_below_zero : (n : ℕ) → nat_lt n 0 ≡ false
none_below_zero n = grind (arith, nat_tests)

-- with a dividend below 0 and a divisor above
neg_pos_zero : (n q r : ℕ) → Next n q r → neg_ℤ (pos r) ≡ pos 0 → pos (n - q) ≡ pos 0
neg_pos_zero n q r (Less e l) h = omega (arith, ints)
neg_pos_zero n q r (Divided e l) h = omega (arith, ints)

neg_pos_same : (n q r : ℕ) → Next n q r → neg_ℤ (pos r) ≢ pos 0 → beq (int_lt (neg_ℤ (pos r)) (pos 0)) (nat_lt (suc n) 0) ≡ true → pos (n - q) ≡ neg_ℤ (pos r)
neg_pos_same n q zero p h t = absurd (h refl)
neg_pos_same n q (suc r) p h t = let f = none_below_zero (suc n) in cc

neg_pos_other : (n q r : ℕ) → Next n q r → neg_ℤ (pos r) ≢ pos 0 → pos (n - q) ≡ neg_ℤ (pos r) +ℤ pos (suc n)
neg_pos_other n q r (Less e l) h = omega (arith, ints)
neg_pos_other n q r (Divided e l) h = omega (arith, ints)

-- with a dividend above 0 and a divisor below
pos_neg_zero : (n q r : ℕ) → Next n q r → pos r ≡ pos 0 → neg_ℤ (pos (n - q)) ≡ pos 0
pos_neg_zero n q r (Less e l) h = omega (arith, ints)
pos_neg_zero n q r (Divided e l) h = omega (arith, ints)

pos_neg_other : (n q r : ℕ) → Next n q r → pos r ≢ pos 0 → neg_ℤ (pos (n - q)) ≡ pos r +ℤ negsuc n
pos_neg_other n q r (Less e l) h = omega (arith, ints)
pos_neg_other n q r (Divided e l) h = omega (arith, ints)

neg_neg_other : (r n : ℕ) → neg_ℤ (pos r) ≢ pos 0 → beq (int_lt (neg_ℤ (pos r)) (pos 0)) true ≡ false → neg_ℤ (pos r) ≡ neg_ℤ (pos r) +ℤ negsuc n
neg_neg_other zero n h e = absurd (h refl)
neg_neg_other (suc r) n h e = cc

-- it is what is left by the other quotient, or, where that has the other sign, that and the divisor
pub modulo_zero : (x y : ℤ) → int_eq y (pos 0) ≡ false → int_rem x y ≡ pos 0 → modulo x y ≡ pos 0
modulo_zero x (pos zero) n e = cc
modulo_zero (pos a) (pos (suc m)) n e = left_pos_pos a m ∙ e
modulo_zero (negsuc a) (pos (suc m)) n e = left_neg_pos a m ∙ neg_pos_zero m (a % suc m) (suc a % suc m) (next a m) e
modulo_zero (pos zero) (negsuc m) n e = left_zero_neg m
modulo_zero (pos (suc a)) (negsuc m) n e = left_pos_neg a m ∙ pos_neg_zero m (a % suc m) (suc a % suc m) (next a m) e
modulo_zero (negsuc a) (negsuc m) n e = left_neg_neg a m ∙ e

pub modulo_same : (x y : ℤ) → int_eq y (pos 0) ≡ false → int_rem x y ≢ pos 0 → beq (int_lt (int_rem x y) (pos 0)) (int_lt y (pos 0)) ≡ true
    → modulo x y ≡ int_rem x y
modulo_same x (pos zero) n h e = cc
modulo_same (pos a) (pos (suc m)) n h e = left_pos_pos a m
modulo_same (negsuc a) (pos (suc m)) n h e = left_neg_pos a m ∙ neg_pos_same m (a % suc m) (suc a % suc m) (next a m) h e
modulo_same (pos zero) (negsuc m) n h e = absurd (h (ap pos (mod-eq_of_lt (omega arith))))
modulo_same (pos (suc a)) (negsuc m) n h e = let f = none_below_zero (suc a % suc m) in cc
modulo_same (negsuc a) (negsuc m) n h e = left_neg_neg a m

pub modulo_other : (x y : ℤ) → int_eq y (pos 0) ≡ false → int_rem x y ≢ pos 0 → beq (int_lt (int_rem x y) (pos 0)) (int_lt y (pos 0)) ≡ false
    → modulo x y ≡ int_rem x y +ℤ y
modulo_other x (pos zero) n h e = cc
modulo_other (pos a) (pos (suc m)) n h e = let f = none_below_zero (suc m) in let g = none_below_zero (a % suc m) in cc
modulo_other (negsuc a) (pos (suc m)) n h e = left_neg_pos a m ∙ neg_pos_other m (a % suc m) (suc a % suc m) (next a m) h
modulo_other (pos zero) (negsuc m) n h e = absurd (h (ap pos (mod-eq_of_lt (omega arith))))
modulo_other (pos (suc a)) (negsuc m) n h e = left_pos_neg a m ∙ pos_neg_other m (a % suc m) (suc a % suc m) (next a m) h
modulo_other (negsuc a) (negsuc m) n h e = left_neg_neg a m ∙ neg_neg_other (suc a % suc m) m h e
