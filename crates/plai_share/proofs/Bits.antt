-- What the bits of a word say of sets of slots.
use Rattle.std.proofs.Common.{◌≡◌, ◌↔◌, ℕ, ◌+◌, ◌*◌, ◌^◌, ◌%◌, ◌<◌, ◌≤◌, IsTrue, Bool, nat_eq, bit_and, arith}
use Rattle.std.proofs.lemmas.Bool.{eq-eqb, eqb-true}
use Rattle.std.proofs.lemmas.Nat.{shl_whole}
use Rattle.plai_base.specs.Mask.{all_true}
use Rattle.plai_base.proofs.Bits.{top_slot}
use Rattle.plai_base.proofs.Sets.{same_tests}
use Rattle.plai_share_laws.proofs.Masks.{same_mask, and_left, and_right, has_and}
use Rattle.plai_share_laws.proofs.Parts.{low_has, has_low}
use Rattle.plai_share_laws.proofs.Values.{in_all}

-- a test for zero
pub zero_test : (b : Bool) (n : ℕ) → (IsTrue b ↔ (n ≡ 0)) → b ≡ nat_eq n 0
zero_test b n h = same_tests b (nat_eq n 0) (λ t. eq-eqb n 0 (h.0 t)) (λ t. h.1 (eqb-true n 0 t))

-- the first n slots
pub and_all : (m n : ℕ) → bit_and m (all_true n) ≡ m % 2 ^ n
and_all m n = same_mask _ _
    (λ k h. has_low m n k (in_all n k (and_right m (all_true n) k h)) (and_left m (all_true n) k h))
    (λ k h. let (l, p) = low_has m n k h in has_and m (all_true n) k p (top_slot n k l))

-- a shift that loses no bit
pub shifted : (m below count : ℕ) → m < 2 ^ count → below + count ≤ 64 → (m * 2 ^ below) % 2 ^ 64 ≡ m * 2 ^ below
shifted m below count l r = shl_whole m count below 64 l (omega arith)
