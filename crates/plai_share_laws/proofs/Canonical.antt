-- Values as patterns hold them are values: canonical lists of masks, and masks below a bound.
use Rattle.std.proofs.Common.{◌≡◌, ℕ, suc, ◌^◌, ◌<◌, ◌≤◌, true, List, [], ◌∷◌, refl, sym, subst, ◌∙◌, inl, inr, arith}
use Rattle.plai_base.specs.Sets.{has, IsSet}
use Rattle.plai_base.specs.Sets as sets
use Rattle.plai_base.proofs.Ascending.{ascending_from, IsAscending-from_set, IsSet-from_ascending}
use Rattle.plai_base.proofs.Sets.{IsSet_below}
use Rattle.plai_share_laws.specs.Shares.{Shares}
use Rattle.plai_share_laws.specs.Sharing.{IsShares, LeqShares}
use Rattle.plai_share_laws.proofs.Members.{IsIn, IsAscending}
use Rattle.plai_share_laws.proofs.Ordered.{Leq, IsValue, InOrder}
use Rattle.plai_share_laws.proofs.Masks.{by_test, has_zero}
use Rattle.plai_share_laws.proofs.Lists.{contains_in, in_contains}
use Rattle.plai_share_laws.proofs.Values.{below_pow, pow_below, some_slot}

-- ascending lists, in two words
ascending : (low b : ℕ) (xs : List ℕ) → sets.IsAscending low b xs → IsAscending xs
ascending low b [] h = tt
ascending low b (x ∷ xs) h = (λ m i. let (l, k) = ascending_from (suc x) b xs m h.2 (in_contains xs m i) in omega (arith, l), ascending (suc x) b xs h.2)

bounded : (low b : ℕ) (xs : List ℕ) → IsAscending xs → ((m : ℕ) → IsIn m xs → low ≤ m) → ((m : ℕ) → IsIn m xs → m < b) → sets.IsAscending low b xs
bounded low b [] h f g = tt
bounded low b (x ∷ xs) h f g = (
  f x (inl refl),
  g x (inl refl),
  bounded (suc x) b xs h.1 (λ m i. let l = h.0 m i in omega (arith, l)) (λ m i. g m (inr i)),
)

pub is_value : (n : ℕ) (v : Shares) → IsShares n v → IsValue n v
is_value n v h = record {
  slots = h.slots;
  ascending = ascending 0 (2 ^ n) v.groups (IsAscending-from_set (2 ^ n) v.groups h.is_set);
  inhabited = λ g i. some_slot g (λ e. let there : has v.groups 0 ≡ true = subst (λ z. has v.groups z ≡ true) e (in_contains v.groups g i) in
      let not = h.inhabited in cc);
  below = λ g i. pow_below n g (IsSet_below (2 ^ n) v.groups g h.is_set (in_contains v.groups g i));
  free = pow_below n v.free h.free;
}

pub is_shares : (n : ℕ) (v : Shares) → IsValue n v → IsShares n v
is_shares n v h = record {
  slots = h.slots;
  is_set = IsSet-from_ascending (2 ^ n) v.groups
      (bounded 0 (2 ^ n) v.groups h.ascending (λ m i. omega arith) (λ m i. below_pow n m (h.below m i)));
  inhabited = by_test (has v.groups 0) (λ t. let (k, e) = h.inhabited 0 (contains_in v.groups 0 t) in absurd (has_zero k e)) (λ t. t);
  free = below_pow n v.free h.free;
}

pub in_order : (n : ℕ) (v w : Shares) → LeqShares n v w → InOrder n v w
in_order n v w h = (
  is_value n v h.first,
  is_value n w h.second,
  record {
    slots = h.first.slots ∙ sym h.second.slots;
    groups = λ m i. contains_in w.groups m (h.groups m (in_contains v.groups m i));
    free = h.free;
  },
)

pub leq_shares : (n : ℕ) (v w : Shares) → IsValue n v → IsValue n w → Leq v w → LeqShares n v w
leq_shares n v w p q h = record {
  first = is_shares n v p;
  second = is_shares n w q;
  groups = λ m t. in_contains w.groups m (h.groups m (contains_in v.groups m t));
  free = h.free;
}

pub shares_refl : (n : ℕ) (v : Shares) → IsShares n v → LeqShares n v v
shares_refl n v h = record { first = h; second = h; groups = λ m t. t; free = λ k t. t }
