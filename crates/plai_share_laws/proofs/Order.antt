-- The order of values, join as the least upper bound, and sizes of sets.
use Rattle.std.proofs.Common.{◌≡◌, ℕ, ◌<◌, ◌≤◌, List, [], ◌∷◌, ◌++◌, length, refl, sym, ◌∙◌, inl, inr, arith}
use Rattle.plai_share_laws.proofs.Members.{IsIn, IsWithin, IsAscending}
use Rattle.plai_share_laws.specs.Groups.{normal}
use Rattle.plai_share_laws.specs.Shares.{Shares, join, sizes}
use Rattle.plai_share_laws.proofs.Ordered.{Leq, IsValue, InOrder, AreCovered}
use Rattle.plai_share_laws.proofs.Masks.{same_mask, and_left, and_right, has_and}
use Rattle.plai_share_laws.proofs.Lists.{by_either, in_append, append_left, append_right, in_normal, normal_in, normal_ascending, same_list, in_map, map_in}
use Rattle.plai_share_laws.proofs.Sets.{normal_within}

pub leq_refl : (v : Shares) → Leq v v
leq_refl v = record { slots = refl; groups = λ x i. i; free = λ k h. h }

pub leq_trans : (u v w : Shares) → Leq u v → Leq v w → Leq u w
leq_trans u v w p q = record { slots = p.slots ∙ q.slots; groups = λ x i. q.groups x (p.groups x i); free = λ k h. p.free k (q.free k h) }

same_shares : (n : ℕ) (gs hs : List ℕ) (f g : ℕ) (m : ℕ) → n ≡ m → gs ≡ hs → f ≡ g
    → ◌≡◌ {A = Shares} (record { slots = n; groups = gs; free = f }) (record { slots = m; groups = hs; free = g })
same_shares n gs hs f g m a b c = cc

pub leq_antisym : (n : ℕ) (v w : Shares) → InOrder n v w → InOrder n w v → v ≡ w
leq_antisym n v w p q =
    same_shares v.slots v.groups w.groups v.free w.free w.slots p.2.slots
    (same_list v.groups w.groups p.0.ascending p.1.ascending p.2.groups q.2.groups)
    (same_mask v.free w.free q.2.free p.2.free)

module _ (n : ℕ) (v w : Shares) where
  pub join_value : IsValue n v → IsValue n w → IsValue n (join v w)
  join_value p q = record {
    slots = p.slots;
    ascending = normal_ascending (v.groups ++ w.groups);
    inhabited = λ g i. by_either (in_append v.groups w.groups g (in_normal _ g i)) (p.inhabited g) (q.inhabited g);
    below = λ g i. by_either (in_append v.groups w.groups g (in_normal _ g i)) (p.below g) (q.below g);
    free = λ k h. p.free k (and_left v.free w.free k h);
  }

  pub join_left : Leq v (join v w)
  join_left = record { slots = refl; groups = λ x i. normal_in _ x (append_left v.groups w.groups x i); free = λ k h. and_left v.free w.free k h }

  pub join_right : v.slots ≡ w.slots → Leq w (join v w)
  join_right e = record { slots = sym e; groups = λ x i. normal_in _ x (append_right v.groups w.groups x i); free = λ k h. and_right v.free w.free k h }

  pub join_least : (u : Shares) → Leq v u → Leq w u → Leq (join v w) u
  join_least u p q = record {
    slots = p.slots;
    groups = λ x i. by_either (in_append v.groups w.groups x (in_normal _ x i)) (p.groups x) (q.groups x);
    free = λ k h. has_and v.free w.free k (p.free k h) (q.free k h);
  }

-- fewer members, no longer
pub less_long : (xs ys : List ℕ) → IsAscending xs → IsAscending ys → IsWithin xs ys → length xs ≤ length ys
less_long [] ys p q f = omega arith
less_long (x ∷ xs) [] p q f = absurd (f x (inl refl))
less_long (x ∷ xs) (y ∷ ys) p q f = by_either (f x (inl refl))
    (λ e. let k : length xs ≤ length ys = less_long xs ys p.1 q.1 (λ z i. later z i (p.0 z i) e (f z (inr i))) in omega arith)
    (λ j. let k : length (x ∷ xs) ≤ length ys = less_long (x ∷ xs) ys p q.1 (λ z i. tail z i (q.0 x j) (f z i)) in omega arith)
  where
    later : (z : ℕ) → IsIn z xs → x < z → y ≡ x → IsIn z (y ∷ ys) → IsIn z ys
    later z i l e (inl d) = absurd (omega arith)
    later z i l e (inr j) = j

    tail : (z : ℕ) → IsIn z (x ∷ xs) → y < x → IsIn z (y ∷ ys) → IsIn z ys
    tail z (inl e) l (inl d) = absurd (omega arith)
    tail z (inr i) l (inl d) = let k : x < z = p.0 z i in absurd (omega arith)
    tail z i l (inr j) = j

pub sizes_grow : (xs ys : List (List ℕ)) → AreCovered xs ys → (limit m : ℕ) → IsIn m (sizes xs) → limit < m → (k : ℕ) × IsIn k (sizes ys) × (limit < k)
sizes_grow xs ys f limit m i l =
    let (set, j, e) = in_map (λ set. length (normal set)) xs m i in
    let (big, k, g) = f set j in
    let c : length (normal set) ≤ length (normal big) = less_long _ _ (normal_ascending set) (normal_ascending big) (normal_within set big g) in
    (length (normal big), map_in (λ set. length (normal set)) ys big k, omega arith)
