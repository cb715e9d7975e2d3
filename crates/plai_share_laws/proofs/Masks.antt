-- Sets of slots.
use Rattle.std.proofs.Common.{◌≡◌, ◌≢◌, ◌⊎◌, ℕ, zero, suc, ◌^◌, ◌<◌, ◌≤◌, Bool, true, false, not, nat_eq, nat_lt, bit_and, bit_or, bit_xor, sym, ◌∙◌, ap}
use Rattle.std.proofs.Common.{subst, inl, inr, arith, pow-suc}
use Rattle.std.specs.Int.{bit_at}
use Rattle.std.proofs.lemmas.Bool.{eq-eqb, eqb-true}
use Rattle.std.proofs.lemmas.Bool.Decides.{nat_tests}
use Rattle.std.proofs.lemmas.Nat.Bits.{bit_at_and, bit_at_or, bit_at_xor, bit_at-zero, bit_at-lt, bit_at-pow_same, bit_at-pow_other, same_from_bits}
use Rattle.std.proofs.lemmas.Nat.Bits.{bit_at_above}
pub use Rattle.plai_base.proofs.Sets.{by_test}
use Rattle.plai_base.specs.Mask.{has_slot, mask_of}
use Rattle.plai_share_laws.specs.Groups.{Has, meets, misses, without, IsPart}
use Rattle.plai_share_laws.proofs.Members.{mask_from}

module _ (m k : ℕ) where
  pub one : Has m k → bit_at m k ≡ 1
  one h = eqb-true (bit_at m k) 1 h

  pub has_bit : bit_at m k ≡ 1 → Has m k
  has_bit e = eq-eqb (bit_at m k) 1 e

  pub none : has_slot m k ≡ false → bit_at m k ≡ 0
  none e = let l = bit_at-lt m k in grind (arith, nat_tests)

  pub lacks : bit_at m k ≡ 0 → has_slot m k ≡ false
  lacks e = grind (arith, nat_tests)

pub no_slot : (m k : ℕ) → (Has m k → ⊥) → has_slot m k ≡ false
no_slot m k h = by_test (has_slot m k) (λ t. absurd (h t)) (λ f. f)

pub not_both : {b : Bool} → b ≡ true → b ≡ false → ⊥
not_both p q = cc

-- sets with the same slots are equal
pub same_mask : (a b : ℕ) → IsPart a b → IsPart b a → a ≡ b
same_mask a b f g = same_from_bits a b (λ k. by_test (has_slot a k)
    (λ t. one a k t ∙ sym (one b k (f k t)))
    (λ t. none a k t ∙ sym (none b k (no_slot b k (λ h. not_both (g k h) t)))))

pub has_or : (a b k : ℕ) → Has (bit_or a b) k → Has a k ⊎ Has b k
has_or a b k h = by_test (has_slot a k) (λ t. inl t)
    (λ t. inr (has_bit b k (let e = one (bit_or a b) k h in let f = bit_at_or a b k in let z = none a k t in omega arith)))

pub or_left : (a b k : ℕ) → Has a k → Has (bit_or a b) k
or_left a b k h = has_bit (bit_or a b) k (omega (arith, one a k h, bit_at_or a b k, bit_at-lt b k))

pub or_right : (a b k : ℕ) → Has b k → Has (bit_or a b) k
or_right a b k h = has_bit (bit_or a b) k (omega (arith, one b k h, bit_at_or a b k, bit_at-lt a k))

pub and_left : (a b k : ℕ) → Has (bit_and a b) k → Has a k
and_left a b k h = has_bit a k (omega (arith, one (bit_and a b) k h, bit_at_and a b k, bit_at-lt a k))

pub and_right : (a b k : ℕ) → Has (bit_and a b) k → Has b k
and_right a b k h = has_bit b k (omega (arith, one (bit_and a b) k h, bit_at_and a b k, bit_at-lt b k))

pub has_and : (a b k : ℕ) → Has a k → Has b k → Has (bit_and a b) k
has_and a b k g h = has_bit (bit_and a b) k (omega (arith, one a k g, one b k h, bit_at_and a b k))

pub has_zero : (k : ℕ) → Has 0 k → ⊥
has_zero k h = let e = one 0 k h in let z = bit_at-zero k in omega arith

-- a set with no slot is 0
pub empty_mask : (m : ℕ) → ((k : ℕ) → Has m k → ⊥) → m ≡ 0
empty_mask m h = same_mask m 0 (λ k i. absurd (h k i)) (λ k i. absurd (has_zero k i))

pub has_of : (s : ℕ) → Has (mask_of s) s
has_of s = has_bit (2 ^ s) s (bit_at-pow_same s)

pub of_has : (s k : ℕ) → Has (mask_of s) k → k ≡ s
of_has s k h = by_test (nat_eq k s) (λ t. eqb-true k s t) (λ f. absurd (no f))
  where
    no : nat_eq k s ≡ false → ⊥
    no f =
        let n : k ≢ s = λ e. not_both (eq-eqb k s e) f in
        let z = bit_at-pow_other s k n in
        let e = one (2 ^ s) k h in omega arith

-- without
pub without_left : (a b k : ℕ) → Has (without a b) k → Has a k
unfolding without
without_left a b k h =
    has_bit a k (omega (arith, one (bit_xor a (bit_and a b)) k h, bit_at_xor a (bit_and a b) k, bit_at_and a b k, bit_at-lt a k, bit_at-lt b k))

pub without_right : (a b k : ℕ) → Has (without a b) k → Has b k → ⊥
unfolding without
without_right a b k h i =
    let e = one (bit_xor a (bit_and a b)) k h in
    let f = bit_at_xor a (bit_and a b) k in
    let g = bit_at_and a b k in
    let j = one b k i in
    let l = bit_at-lt a k in omega arith

pub has_without : (a b k : ℕ) → Has a k → (Has b k → ⊥) → Has (without a b) k
unfolding without
has_without a b k h n =
    let e = one a k h in
    let z = none b k (no_slot b k n) in
    has_bit (bit_xor a (bit_and a b)) k (omega (arith, bit_at_xor a (bit_and a b) k, bit_at_and a b k))

-- two sets meet where a slot is in both
pub meets_at : (a b k : ℕ) → Has a k → Has b k → meets a b ≡ true
unfolding meets
meets_at a b k g h = by_test (nat_eq (bit_and a b) 0)
    (λ t. absurd (has_zero k (subst (λ n. Has n k) (eqb-true (bit_and a b) 0 t) (has_and a b k g h))))
    (λ f. ap not f)

lt_pow : (n : ℕ) → n < 2 ^ n
lt_pow zero = omega arith
lt_pow (suc n) = omega (arith, lt_pow n, pow-suc 2 n)

-- each slot of a mask is below the mask
pub slot_below : (m k : ℕ) → Has m k → k < m
slot_below m k h = by_test (nat_lt k m) (λ t. under t) (λ f. absurd (over f))
  where
    under : nat_lt k m ≡ true → k < m
    under t = grind (arith, nat_tests)

    over : nat_lt k m ≡ false → ⊥
    over f =
        let l : m ≤ k = grind (arith, nat_tests) in
        let z = bit_at_above m m k (lt_pow m) l in
        let e = one m k h in omega arith

pub meet_slot : (a b : ℕ) → meets a b ≡ true → (k : ℕ) × Has a k × Has b k
unfolding meets
meet_slot a b m =
    let (k, h) = first a (bit_and a b) (λ k h. slot_below a k (and_left a b k h)) (λ e. not_both m (ap not (eq-eqb (bit_and a b) 0 e))) in
    (k, and_left a b k h, and_right a b k h)
  where
    first : (n c : ℕ) → ((k : ℕ) → Has c k → k < n) → (c ≡ 0 → ⊥) → (k : ℕ) × Has c k
    first zero c low ne = absurd (ne (empty_mask c (λ k h. omega (arith, low k h))))
    first (suc n) c low ne = by_test (has_slot c n) (λ t. (n, t))
        (λ f. first n c (λ k h. below k h (low k h) f) ne)
      where
        below : (k : ℕ) → Has c k → k < suc n → has_slot c n ≡ false → k < n
        below k h l f = by_test (nat_eq k n) (λ t. absurd (not_both (subst (λ x. Has c x) (eqb-true k n t) h) f))
            (λ g. let d : k ≢ n = λ e. not_both (eq-eqb k n e) g in omega arith)

pub meets_or_left : (a b g : ℕ) → meets a g ≡ true → meets (bit_or a b) g ≡ true
meets_or_left a b g e = let (k, h, i) = meet_slot a g e in meets_at (bit_or a b) g k (or_left a b k h) i

pub meets_or_right : (a b g : ℕ) → meets b g ≡ true → meets (bit_or a b) g ≡ true
meets_or_right a b g e = let (k, h, i) = meet_slot b g e in meets_at (bit_or a b) g k (or_right a b k h) i

pub misses_at : (a b : ℕ) → ((k : ℕ) → Has a k → Has b k → ⊥) → misses a b ≡ true
misses_at a b n = by_test (meets a b) (λ t. let (k, h, i) = meet_slot a b t in absurd (n k h i)) (λ f. rw f)

pub miss_slot : (a b k : ℕ) → misses a b ≡ true → Has a k → Has b k → ⊥
miss_slot a b k e h i = let t = meets_at a b k h i in let f : not true ≡ true = rw t at e in cc

-- the set of the slots below n that pass
pub from_has : (test : ℕ → Bool) (n k : ℕ) → Has (mask_from test n) k → (k < n) × (test k ≡ true)
unfolding mask_from
from_has test zero k h = absurd (has_zero k h)
from_has test (suc n) k h = by_test (test n)
    (λ t. last t (has_or (mask_from test n) (mask_of n) k (let u : Has (bit_or (mask_from test n) (mask_of n)) k = rw t at h in u)) (from_has test n k))
    (λ t. let (l, e) = from_has test n k (rw t at h) in (omega arith, e))
  where
    last : test n ≡ true → Has (mask_from test n) k ⊎ Has (mask_of n) k → (Has (mask_from test n) k → (k < n) × (test k ≡ true)) → (k < suc n) × (test k ≡ true)
    last t (inl i) f = let (l, e) = f i in (omega arith, e)
    last t (inr i) f = let e = of_has n k i in (omega arith, subst (λ x. test x ≡ true) (sym e) t)

pub has_from : (test : ℕ → Bool) (n k : ℕ) → k < n → test k ≡ true → Has (mask_from test n) k
unfolding mask_from
has_from test zero k l e = absurd (omega arith)
has_from test (suc n) k l e = by_test (nat_eq k n)
    (λ t. let d = eqb-true k n t in let u : test n ≡ true = subst (λ x. test x ≡ true) d e in
    rw u (or_right (mask_from test n) (mask_of n) k (subst (λ x. Has (mask_of n) x) (sym d) (has_of n))))
    (λ f. let d : k ≢ n = λ e. not_both (eq-eqb k n e) f in
    by_test (test n) (λ t. rw t (or_left (mask_from test n) (mask_of n) k (has_from test n k (omega arith) e))) (λ t. rw t (has_from test n k (omega arith) e)))
