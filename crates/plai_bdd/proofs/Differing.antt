-- Assignments that differ only within a set of slots below a bound.
use Rattle.std.proofs.Common.{◌≡◌, ℕ, suc, ◌<◌, Bool, true, false, cond, nat_eq, IsTrue, sym, ap, subst, ◌∙◌, true≢false, arith, ◌⊎◌, inl, inr}
use Rattle.std.proofs.lemmas.Bool.Decides.{nat_tests}
use Rattle.plai_base.specs.Mask.{has_slot}
use Rattle.plai_bdd.specs.Assignment.{Assignment, with_slot}
use Rattle.plai_bdd.proofs.Trees.{with_slot_same}

-- two assignments that differ only at slots of the set below a bound
abbrev pub DifferBelow : ℕ → ℕ → Assignment → Assignment → Type 0
DifferBelow mask bound left right = (k : ℕ) → (left k ≡ right k) ⊎ ((k < bound) × IsTrue (has_slot mask k))

pub last_or : (k n : ℕ) → k < suc n → (k < n) ⊎ (k ≡ n)
last_or k n h = grind arith

here_or : (k n : ℕ) → (k ≡ n) ⊎ (nat_eq k n ≡ false)
here_or k n = grind (arith, nat_tests)

not_last : (k n : ℕ) → k < suc n → nat_eq k n ≡ false → k < n
not_last k n h e = grind (arith, nat_tests)

pub same_at : (mask : ℕ) (other at : Assignment) → DifferBelow mask 0 other at → (k : ℕ) → other k ≡ at k
same_at mask other at d k = by (d k)
  where
    by : (other k ≡ at k) ⊎ ((k < 0) × IsTrue (has_slot mask k)) → other k ≡ at k
    by (inl e) = e
    by (inr p) = absurd (omega (arith, p.0))

-- differing within the set below a bound, one more slot
module _ (mask n : ℕ) (other at : Assignment) where
  pub more_without : DifferBelow mask n other at → DifferBelow mask (suc n) other at
  more_without d k = by (d k)
    where
      by : (other k ≡ at k) ⊎ ((k < n) × IsTrue (has_slot mask k)) → (other k ≡ at k) ⊎ ((k < suc n) × IsTrue (has_slot mask k))
      by (inl e) = inl e
      by (inr p) = inr (omega (arith, p.0), p.1)

  pub more_with : (v : Bool) → has_slot mask n ≡ true → DifferBelow mask n other at → DifferBelow mask (suc n) (with_slot other n v) at
  more_with v e d k = by (d k) (here_or k n)
    where
      by : (other k ≡ at k) ⊎ ((k < n) × IsTrue (has_slot mask k)) → (k ≡ n) ⊎ (nat_eq k n ≡ false)
          → (with_slot other n v k ≡ at k) ⊎ ((k < suc n) × IsTrue (has_slot mask k))
      by (inr p) _ = inr (omega (arith, p.0), p.1)
      by (inl q) (inl same) = inr (omega arith, ap (has_slot mask) same ∙ e)
      by (inl q) (inr apart) = inl (ap (λ c. cond c v (other k)) apart ∙ q)

  pub less_without : has_slot mask n ≡ false → DifferBelow mask (suc n) other at → DifferBelow mask n other at
  less_without e d k = by (d k)
    where
      last : IsTrue (has_slot mask k) → (k < n) ⊎ (k ≡ n) → (other k ≡ at k) ⊎ ((k < n) × IsTrue (has_slot mask k))
      last has (inl lt) = inr (lt, has)
      last has (inr same) = absurd (true≢false (sym has ∙ ap (has_slot mask) same ∙ e))

      by : (other k ≡ at k) ⊎ ((k < suc n) × IsTrue (has_slot mask k)) → (other k ≡ at k) ⊎ ((k < n) × IsTrue (has_slot mask k))
      by (inl q) = inl q
      by (inr p) = last p.1 (last_or k n p.0)

  pub less_with : DifferBelow mask (suc n) other at → DifferBelow mask n (with_slot other n (at n)) at
  less_with d k = by (d k) (here_or k n)
    where
      by : (other k ≡ at k) ⊎ ((k < suc n) × IsTrue (has_slot mask k)) → (k ≡ n) ⊎ (nat_eq k n ≡ false)
          → (with_slot other n (at n) k ≡ at k) ⊎ ((k < n) × IsTrue (has_slot mask k))
      by _ (inl same) = inl (let P : ℕ → Type 0 = λ m. with_slot other n (at n) m ≡ at m in subst P (sym same) (with_slot_same other n (at n)))
      by (inl q) (inr apart) = inl (ap (λ c. cond c (at n) (other k)) apart ∙ q)
      by (inr p) (inr apart) = inr (not_last k n p.0 apart, p.1)

-- a slot that was replaced is put back
pub put_back : (other : Assignment) (n : ℕ) (v : Bool) (k : ℕ) → with_slot (with_slot other n v) n (other n) k ≡ other k
put_back other n v k = by (here_or k n)
  where
    by : (k ≡ n) ⊎ (nat_eq k n ≡ false) → with_slot (with_slot other n v) n (other n) k ≡ other k
    by (inl same) = let P : ℕ → Type 0 = λ m. with_slot (with_slot other n v) n (other n) m ≡ other m in
        subst P (sym same) (with_slot_same (with_slot other n v) n (other n))
    by (inr apart) = ap (λ c. cond c (other n) (with_slot other n v k)) apart ∙ ap (λ c. cond c v (other k)) apart

-- assignments that differ within the set still do where one of its slots is replaced
pub differ_with : (mask slot : ℕ) → slot < 64 → has_slot mask slot ≡ true → (at : Assignment) (b : Bool) → DifferBelow mask 64 (with_slot at slot b) at
differ_with mask slot lt e at b k = by (here_or k slot)
  where
    by : (k ≡ slot) ⊎ (nat_eq k slot ≡ false) → (with_slot at slot b k ≡ at k) ⊎ ((k < 64) × IsTrue (has_slot mask k))
    by (inl same) = inr (omega arith, ap (has_slot mask) same ∙ e)
    by (inr apart) = inl (ap (λ c. cond c b (at k)) apart)

pub differ_then : (mask n : ℕ) (x y z : Assignment) → DifferBelow mask n x y → DifferBelow mask n y z → DifferBelow mask n x z
differ_then mask n x y z d e k = by (d k) (e k)
  where
    by : (x k ≡ y k) ⊎ ((k < n) × IsTrue (has_slot mask k)) → (y k ≡ z k) ⊎ ((k < n) × IsTrue (has_slot mask k))
        → (x k ≡ z k) ⊎ ((k < n) × IsTrue (has_slot mask k))
    by (inl p) (inl q) = inl (p ∙ q)
    by (inl p) (inr q) = inr q
    by (inr p) _ = inr p

pub differ_back : (mask n : ℕ) (x y : Assignment) → DifferBelow mask n x y → DifferBelow mask n y x
differ_back mask n x y d k = by (d k)
  where
    by : (x k ≡ y k) ⊎ ((k < n) × IsTrue (has_slot mask k)) → (y k ≡ x k) ⊎ ((k < n) × IsTrue (has_slot mask k))
    by (inl p) = inl (sym p)
    by (inr p) = inr p
