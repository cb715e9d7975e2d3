-- What the bits of a mask say.
use Rattle.std.proofs.Common.{◌≡◌, ◌≢◌, ℕ, ◌+◌, ◌^◌, ◌<◌, ◌≤◌, nat_lt, true, false, nat_eq, IsTrue, not, ◌↔◌, bit_and, w64, [], ◌∷◌, ◌++◌, filter, cond}
use Rattle.std.proofs.Common.{arith, sym, ap, ◌∙◌}
use Rattle.std.specs.Int.{bit_at, trailing_zeros}
use Rattle.std.specs.List.{range_with_len}
use Rattle.std.proofs.lemmas.List.Elements.{filter-append}
use Rattle.std.proofs.lemmas.List.FromFn.{map-range_with_len_more}
use Rattle.std.proofs.lemmas.List.{map-id, append-nil}
use Rattle.std.proofs.lemmas.Bool.{eq-eqb, eqb-true, le-ltb}
use Rattle.std.proofs.lemmas.Bool.Decides.{nat_tests, Decides-not, Decides-eqb}
use Rattle.std.proofs.lemmas.Nat.{and_le_l}
use Rattle.std.proofs.lemmas.Nat.Bits.{bit_at_and, bit_at-zero, bit_at-lt, bit_at_above, bit_at-trailing_zeros, same_from_bits_below}
use Rattle.plai_base.specs.Mask.{has_slot, meet, slots_below}

pub lowest_is : (n : ℕ) → 0 < n → n < 2 ^ 64
    → IsTrue (has_slot n (trailing_zeros w64 n)) × (trailing_zeros w64 n < 64)
    × ((k : ℕ) → k < trailing_zeros w64 n → IsTrue (has_slot n k) → ⊥)
lowest_is n h m =
    let t = bit_at-trailing_zeros w64 n h m in
    (eq-eqb _ _ t.1, t.0, λ k lt yes. absurd (omega (arith, t.2 k lt, eqb-true (bit_at n k) 1 yes)))

-- a set that is not empty has a slot in common with each set that has its bits
pub both_slots : (a b : ℕ) → a < 2 ^ 64 → bit_and a b ≢ 0 → meet a b
both_slots a b fits h =
    let t = bit_at-trailing_zeros w64 (bit_and a b) (omega arith) (omega (arith, and_le_l a b)) in
    let k = trailing_zeros w64 (bit_and a b) in
    let e = bit_at_and a b k in
    (k, (eq-eqb _ _ (omega (arith, t.1, e, bit_at-lt a k, bit_at-lt b k)), eq-eqb _ _ (omega (arith, t.1, e, bit_at-lt a k, bit_at-lt b k))))

pub meet_some : (a b : ℕ) → meet a b → bit_and a b ≢ 0
meet_some a b h e =
    let k = h.0 in
    let none : bit_at (bit_and a b) k ≡ 0 = ap (λ n. bit_at n k) e ∙ bit_at-zero k in
    omega (arith, none, bit_at_and a b k, eqb-true (bit_at a k) 1 h.1.0, eqb-true (bit_at b k) 1 h.1.1)

pub meets-Decides : (a b : ℕ) → a < 2 ^ 64 → IsTrue (not (nat_eq (bit_and a b) 0)) ↔ meet a b
meets-Decides a b fits =
    let d = Decides-not (nat_eq (bit_and a b) 0) (Decides-eqb (bit_and a b) 0) in
    (λ yes. both_slots a b fits (d.0 yes), λ some. d.1 (meet_some a b some))

same_bit : (x y : ℕ) → x < 2 → y < 2 → nat_eq x 1 ≡ nat_eq y 1 → x ≡ y
same_bit x y p q e = grind (arith, nat_tests)

-- sets with the same slots are equal
pub same_mask : (a b : ℕ) → a < 2 ^ 64 → b < 2 ^ 64 → ((k : ℕ) → k < 64 → has_slot a k ≡ has_slot b k) → a ≡ b
same_mask a b p q h = same_from_bits_below 64 a b p q (λ k lt. same_bit (bit_at a k) (bit_at b k) (bit_at-lt a k) (bit_at-lt b k) (h k lt))

module _ (mask k : ℕ) where
  slots_below-more : slots_below mask (k + 1) ≡ slots_below mask k ++ cond (has_slot mask k) (k ∷ []) []
  unfolding slots_below
  slots_below-more =
      let more : range_with_len 0 (k + 1) ≡ range_with_len 0 k ++ k ∷ [] =
      sym (map-id (range_with_len 0 (k + 1))) ∙ map-range_with_len_more (λ x. x) 0 k k (omega arith) ∙ ap (λ r. r ++ k ∷ []) (map-id (range_with_len 0 k)) in
      ap (filter (has_slot mask)) more ∙ filter-append (has_slot mask) (range_with_len 0 k) (k ∷ [])

  pub slots_below-with : has_slot mask k ≡ true → slots_below mask (k + 1) ≡ slots_below mask k ++ k ∷ []
  slots_below-with e = slots_below-more ∙ ap (λ b. slots_below mask k ++ cond b (k ∷ []) []) e

  pub slots_below-without : has_slot mask k ≡ false → slots_below mask (k + 1) ≡ slots_below mask k
  slots_below-without e = slots_below-more ∙ ap (λ b. slots_below mask k ++ cond b (k ∷ []) []) e ∙ append-nil (slots_below mask k)

-- a mask has no slot from 64 on
pub no_slot_above : (mask slot : ℕ) → mask < 2 ^ 64 → 64 ≤ slot → nat_lt slot 64 ≡ has_slot mask slot
no_slot_above mask slot m l = le-ltb slot 64 l ∙ ap (λ b. nat_eq b 1) (sym (bit_at_above mask 64 slot m l))
