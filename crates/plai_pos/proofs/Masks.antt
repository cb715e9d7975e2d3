-- Sets of slots, as conjunctions.
use Rattle.std.proofs.Common.{◌≡◌, ◌≢◌, ℕ, ◌+◌, ◌^◌, ◌<◌, ◌≤◌, true, false, nat_eq, ◌&&◌, bit_or, ◌↔◌, IsTrue, ◌⊎◌, inl, inr, sym, ap, subst, ◌∙◌, arith}
use Rattle.std.specs.Int.{bit_at}
use Rattle.std.proofs.lemmas.Bool.{eqb-true, eq-eqb, and_parts, and_from}
use Rattle.std.proofs.lemmas.Nat.Bits.{bit_at_or, bit_at-zero, bit_at-pow_same, bit_at-pow_other, bit_at-lt}
use Rattle.plai_base.specs.Mask.{has_slot, mask_of}
use Rattle.plai_base.proofs.Sets.{same_tests}
use Rattle.plai_bdd.specs.Assignment.{Assignment}
use Rattle.plai_bdd.specs.Slots.{conjunction}
use Rattle.plai_bdd.proofs.Slots.{all_hold-Decides}

pub no_slots : (slot : ℕ) → has_slot 0 slot ≡ false
no_slots slot = ap (λ n. nat_eq n 1) (bit_at-zero slot)

same_or_not : (a b : ℕ) → (a ≡ b) ⊎ (a ≢ b)
same_or_not a b = grind arith

-- a slot of a set with one slot more
pub slot_or : (mask slot k : ℕ) → IsTrue (has_slot (bit_or mask (mask_of slot)) k) → IsTrue (has_slot mask k) ⊎ (k ≡ slot)
slot_or mask slot k h = by (same_or_not k slot)
  where
    by : (k ≡ slot) ⊎ (k ≢ slot) → IsTrue (has_slot mask k) ⊎ (k ≡ slot)
    by (inl same) = inr same
    by (inr other) = inl (eq-eqb _ 1 (omega (
      arith,
      eqb-true (bit_at (bit_or mask (mask_of slot)) k) 1 h,
      bit_at_or mask (2 ^ slot) k,
      bit_at-pow_other slot k other,
    )))

pub slot_there : (mask slot k : ℕ) → IsTrue (has_slot mask k) → IsTrue (has_slot (bit_or mask (mask_of slot)) k)
slot_there mask slot k h = eq-eqb _ 1 (omega (arith, eqb-true (bit_at mask k) 1 h, bit_at_or mask (2 ^ slot) k, bit_at-lt (2 ^ slot) k))

pub slot_here : (mask slot : ℕ) → IsTrue (has_slot (bit_or mask (mask_of slot)) slot)
slot_here mask slot = eq-eqb _ 1 (omega (arith, bit_at_or mask (2 ^ slot) slot, bit_at-pow_same slot, bit_at-lt mask slot))

pub conjunction-none : (at : Assignment) → conjunction 0 at ≡ true
conjunction-none at = (all_hold-Decides 0 64 at).1 (λ k l h. let e = no_slots k in absurd (true_false (sym h ∙ e)))
  where
    true_false : true ≡ false → ⊥
    true_false e = cc

pub conjunction-insert : (mask slot : ℕ) (at : Assignment) → slot < 64 → conjunction (bit_or mask (mask_of slot)) at ≡ (conjunction mask at && at slot)
conjunction-insert mask slot at l =
    same_tests (conjunction (bit_or mask (mask_of slot)) at) (conjunction mask at && at slot)
    (λ h.
    let all = (all_hold-Decides (bit_or mask (mask_of slot)) 64 at).0 h in
    and_from _ _ ((all_hold-Decides mask 64 at).1 (λ k less has. all k less (slot_there mask slot k has))) (all slot l (slot_here mask slot)))
    (λ h.
    let r = and_parts (conjunction mask at) (at slot) h in
    let old = (all_hold-Decides mask 64 at).0 r.0 in
    (all_hold-Decides (bit_or mask (mask_of slot)) 64 at).1 (λ k less has. by k less old r.1 (slot_or mask slot k has)))
  where
    by : (k : ℕ) → k < 64 → ((k : ℕ) → k < 64 → IsTrue (has_slot mask k) → IsTrue (at k)) → at slot ≡ true → IsTrue (has_slot mask k) ⊎ (k ≡ slot)
        → IsTrue (at k)
    by k less old here (inl has) = old k less has
    by k less old here (inr e) = ap at e ∙ here

-- the slots of a range
abbrev pub IsRange : ℕ → ℕ → ℕ → Type 0
IsRange mask first end = (slot : ℕ) → IsTrue (has_slot mask slot) ↔ ((first ≤ slot) × (slot < end))

pub range_none : (mask first : ℕ) → mask ≡ 0 → IsRange mask first first
range_none mask first e slot = (λ h. absurd (true_false (sym h ∙ ap (λ m. has_slot m slot) e ∙ no_slots slot)), λ p. absurd (omega (arith, p.0, p.1)))
  where
    true_false : true ≡ false → ⊥
    true_false e = cc

pub range_more : (mask next first end : ℕ) → first ≤ end → next ≡ bit_or mask (mask_of end) → IsRange mask first end → IsRange next first (end + 1)
range_more mask next first end le e h slot = (
  λ has. down (slot_or mask end slot (subst (λ m. IsTrue (has_slot m slot)) e has)),
  λ p. subst (λ m. IsTrue (has_slot m slot)) (sym e) (up p (last_or slot end)),
)
  where
    down : IsTrue (has_slot mask slot) ⊎ (slot ≡ end) → (first ≤ slot) × (slot < end + 1)
    down (inl has) = let p = (h slot).0 has in (p.0, omega (arith, p.1))
    down (inr same) = (omega arith, omega arith)

    last_or : (k n : ℕ) → (k ≡ n) ⊎ (k ≢ n)
    last_or k n = grind arith

    up : (first ≤ slot) × (slot < end + 1) → (slot ≡ end) ⊎ (slot ≢ end) → IsTrue (has_slot (bit_or mask (mask_of end)) slot)
    up p (inl same) = subst (λ k. IsTrue (has_slot (bit_or mask (mask_of end)) k)) (sym same) (slot_here mask end)
    up p (inr other) = slot_there mask end slot ((h slot).1 (p.0, omega (arith, p.1, other)))

pub only_slot : (slot k : ℕ) → IsTrue (has_slot (mask_of slot) k) → k ≡ slot
only_slot slot k h = by (same_or_not k slot)
  where
    by : (k ≡ slot) ⊎ (k ≢ slot) → k ≡ slot
    by (inl same) = same
    by (inr other) = absurd (omega (arith, eqb-true (bit_at (2 ^ slot) k) 1 h, bit_at-pow_other slot k other))

pub own_slot : (slot : ℕ) → IsTrue (has_slot (mask_of slot) slot)
own_slot slot = eq-eqb _ 1 (bit_at-pow_same slot)

-- a conjunction depends on its slots alone
pub conjunction-alike : (mask : ℕ) (at other : Assignment) → ((slot : ℕ) → IsTrue (has_slot mask slot) → at slot ≡ other slot)
    → conjunction mask at ≡ conjunction mask other
conjunction-alike mask at other same =
    same_tests (conjunction mask at) (conjunction mask other)
    (λ h. (all_hold-Decides mask 64 other).1 (λ k l has. sym (same k has) ∙ (all_hold-Decides mask 64 at).0 h k l has))
    (λ h. (all_hold-Decides mask 64 at).1 (λ k l has. same k has ∙ (all_hold-Decides mask 64 other).0 h k l has))
