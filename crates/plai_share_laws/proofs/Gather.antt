-- Unions of the groups of some variables.
use Rattle.std.proofs.Common.{◌≡◌, ◌≢◌, ◌⊎◌, ℕ, zero, suc, ◌<◌, Bool, true, cond, nat_eq, bit_or, List, refl, sym, ◌∙◌, ap, subst, inl, inr, arith}
use Rattle.std.proofs.lemmas.Bool.{eq-eqb, eqb-true}
use Rattle.plai_share_laws.proofs.Members.{IsIn}
use Rattle.plai_share_laws.specs.Groups.{Has, star}
use Rattle.plai_share_laws.proofs.Masks.{by_test, not_both, has_or, or_left, or_right, has_zero}
use Rattle.plai_share_laws.proofs.Sets.{star_member, star_join, or_zero}

-- the union of the sets of the numbers below n that are picked
abbrev pub gather : (ℕ → Bool) → (ℕ → ℕ) → ℕ → ℕ
gather pick set zero = 0
gather pick set (suc n) = cond (pick n) (bit_or (set n) (gather pick set n)) (gather pick set n)

module _ (pick : ℕ → Bool) (set : ℕ → ℕ) where
  pub in_gather : (n k : ℕ) → Has (gather pick set n) k → (v : ℕ) × (pick v ≡ true) × Has (set v) k
  in_gather zero k h = absurd (has_zero k h)
  in_gather (suc n) k h = by_test (pick n)
      (λ t. last t (has_or (set n) (gather pick set n) k (let u : Has (bit_or (set n) (gather pick set n)) k = rw t at h in u)) (in_gather n k))
      (λ t. in_gather n k (rw t at h))
    where
      last : pick n ≡ true → Has (set n) k ⊎ Has (gather pick set n) k → (Has (gather pick set n) k → (v : ℕ) × (pick v ≡ true) × Has (set v) k)
          → (v : ℕ) × (pick v ≡ true) × Has (set v) k
      last t (inl i) f = (n, t, i)
      last t (inr i) f = f i

  pub gather_in : (n v k : ℕ) → v < n → pick v ≡ true → Has (set v) k → Has (gather pick set n) k
  gather_in zero v k l e h = absurd (omega arith)
  gather_in (suc n) v k l e h = by_test (nat_eq v n)
      (λ t. let d = eqb-true v n t in let u : pick n ≡ true = subst (λ x. pick x ≡ true) d e in
      rw u (or_left (set n) (gather pick set n) k (subst (λ x. Has (set x) k) d h)))
      (λ f. let d : v ≢ n = λ e. not_both (eq-eqb v n e) f in
      by_test (pick n) (λ t. rw t (or_right (set n) (gather pick set n) k (gather_in n v k (omega arith) e h))) (λ t. rw t (gather_in n v k (omega arith) e h)))

  -- it is 0, or a union of one or more members
  pub gather_star : (xs : List ℕ) → ((v : ℕ) → pick v ≡ true → IsIn (set v) xs) → (n : ℕ) → (gather pick set n ≡ 0) ⊎ IsIn (gather pick set n) (star xs)
  gather_star xs f zero = inl refl
  gather_star xs f (suc n) = by_test (pick n) (λ t. rw t (more t (gather_star xs f n))) (λ t. rw t (gather_star xs f n))
    where
      more : pick n ≡ true → (gather pick set n ≡ 0) ⊎ IsIn (gather pick set n) (star xs)
          → (bit_or (set n) (gather pick set n) ≡ 0) ⊎ IsIn (bit_or (set n) (gather pick set n)) (star xs)
      more t (inl e) = inr (subst (λ x. IsIn x (star xs)) (sym (ap (bit_or (set n)) e ∙ or_zero (set n))) (star_member xs (set n) (f n t)))
      more t (inr i) = inr (star_join xs (set n) (gather pick set n) (f n t) i)

  -- where one is picked that has a slot, it is a union of one or more
  pub gathered : (xs : List ℕ) → ((v : ℕ) → pick v ≡ true → IsIn (set v) xs) → (n v k : ℕ) → v < n → pick v ≡ true → Has (set v) k
      → IsIn (gather pick set n) (star xs)
  gathered xs f n v k l e h = split (gather_star xs f n) (gather_in n v k l e h)
    where
      split : (gather pick set n ≡ 0) ⊎ IsIn (gather pick set n) (star xs) → Has (gather pick set n) k → IsIn (gather pick set n) (star xs)
      split (inl z) i = absurd (has_zero k (subst (λ x. Has x k) z i))
      split (inr j) i = j
