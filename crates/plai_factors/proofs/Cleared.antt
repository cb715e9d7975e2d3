-- A set without one of its slots.
use Rattle.std.proofs.Common.{◌≡◌, ◌≢◌, ℕ, ◌*◌, ◌%◌, ◌^◌, ◌<◌, ◌≤◌, ◌⊎◌, inl, inr, IsTrue, true, nat_eq, bit_and, w64, sym, ap, ◌∙◌, arith}
use Rattle.std.specs.Int.{bit_at, bit_not}
use Rattle.std.proofs.lemmas.Bool.{eqb-true}
use Rattle.std.proofs.lemmas.Nat.{and_le_l}
use Rattle.std.proofs.lemmas.Nat.Bits.{bit_at_clear_same, bit_at_clear_other}
use Rattle.plai_base.specs.Mask.{has_slot}
use Rattle.plai_factors.proofs.Order.{same_or_not}

abbrev pub cleared : ℕ → ℕ → ℕ
cleared n slot = bit_and n (bit_not w64 (1 * 2 ^ slot % 2 ^ 64))

pub cleared_less : (n slot : ℕ) → slot < 64 → has_slot n slot ≡ true → cleared n slot < n
cleared_less n slot lt has =
    let one : bit_at n slot ≡ 1 = eqb-true (bit_at n slot) 1 has in
    let none : bit_at (cleared n slot) slot ≡ 0 = bit_at_clear_same w64 n slot lt in
    let least : cleared n slot ≤ n = and_le_l n (bit_not w64 (1 * 2 ^ slot % 2 ^ 64)) in
    let other : cleared n slot ≢ n = λ e. no (sym none ∙ ap (λ m. bit_at m slot) e ∙ one) in
    omega (arith, least, other)
  where
    no : ◌≡◌ {A = ℕ} 0 1 → ⊥
    no e = omega (arith, e)

pub cleared_others : (n slot k : ℕ) → slot < 64 → k < 64 → k ≢ slot → has_slot (cleared n slot) k ≡ has_slot n k
cleared_others n slot k lt less apart = ap (λ b. nat_eq b 1) (bit_at_clear_other w64 n slot lt k less apart)

-- each slot of the first set is in the second
abbrev pub IsWithin : ℕ → ℕ → Type 0
IsWithin less more = (k : ℕ) → k < 64 → IsTrue (has_slot less k) → IsTrue (has_slot more k)

-- a set within another, without one of its slots
pub within_less : (whole more less slot : ℕ) → has_slot more slot ≡ true → ((k : ℕ) → k < 64 → k ≢ slot → has_slot less k ≡ has_slot more k)
    → IsWithin more whole → IsWithin less whole
within_less whole more less slot has others within k lt here = by (same_or_not k slot)
  where
    by : (k ≡ slot) ⊎ (k ≢ slot) → IsTrue (has_slot whole k)
    by (inl same) = within k lt (ap (has_slot more) same ∙ has)
    by (inr apart) = within k lt (sym (others k lt apart) ∙ here)
