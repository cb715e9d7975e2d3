-- The operations give values: ascending lists of sets of slots.
use Rattle.std.proofs.Common.{◌≡◌, ℕ, suc, ◌+◌, ◌/◌, ◌%◌, ◌^◌, ◌<◌, Bool, true, false, not, ◌||◌, nat_eq, bit_and, bit_or, List, [], ◌∷◌, ◌++◌, map, filter}
use Rattle.std.proofs.Common.{refl, sym, ap, subst, inl, inr, arith}
use Rattle.std.proofs.Math.Nat.{mod-eq_of_lt}
use Rattle.plai_base.specs.Mask.{mask_of, all_true}
use Rattle.plai_base.proofs.Bits.{top_lt}
use Rattle.plai_share_laws.proofs.Members.{IsIn, IsAscending}
use Rattle.plai_base.specs.Sets.{has}
use Rattle.plai_share_laws.specs.Groups.{Has, meets, without, normal, rel, missing, star, bin}
use Rattle.plai_share_laws.specs.Shares.{Shares, Side, slots_of, is_free, united, unify, widen, parts, first_slots, last_slots, answered, havocked, grounded}
use Rattle.plai_share_laws.specs.Shares.{same, freed}
use Rattle.plai_share_laws.proofs.Ordered.{IsBelow, IsValue}
use Rattle.plai_share_laws.proofs.Masks.{by_test, not_both, same_mask, has_or, or_left, of_has, has_of, empty_mask, meet_slot, meets_at, without_left}
use Rattle.plai_share_laws.proofs.Lists.{by_either, in_append, in_filter, in_normal, normal_ascending}
use Rattle.plai_share_laws.proofs.Sets.{in_star, in_bin}
use Rattle.plai_share_laws.proofs.Parts.{in_parts, low_has, has_low, high_has, under}

-- a group of slots below n
pub record IsGroup (n g : ℕ) : Type 0 where
  pub some : (k : ℕ) × Has g k
  pub below : IsBelow n g

abbrev pub AreGroups : ℕ → List ℕ → Type 0
AreGroups n gs = (g : ℕ) → IsIn g gs → IsGroup n g

pub value_from : (n m : ℕ) (gs : List ℕ) (f : ℕ) → m ≡ n → IsAscending gs → AreGroups n gs → IsBelow n f
    → IsValue n (record { slots = m; groups = gs; free = f })
value_from n m gs f e up all low = record {
  slots = e;
  ascending = up;
  inhabited = λ g i. (all g i).some;
  below = λ g i. (all g i).below;
  free = low;
}

pub value_normal : (n m : ℕ) (gs : List ℕ) (f : ℕ) → m ≡ n → AreGroups n gs → IsBelow n f → IsValue n (record { slots = m; groups = normal gs; free = f })
value_normal n m gs f e all low = value_from n m (normal gs) f e (normal_ascending gs) (λ g i. all g (in_normal gs g i)) low

pub groups_of : (n : ℕ) (v : Shares) → IsValue n v → AreGroups n v.groups
groups_of n v p g i = record { some = p.inhabited g i; below = p.below g i }

group_or : (n a b : ℕ) → IsGroup n a → IsGroup n b → IsGroup n (bit_or a b)
group_or n a b p q = let (k, h) = p.some in record { some = (k, or_left a b k h); below = λ k h. by_either (has_or a b k h) (p.below k) (q.below k) }

groups_star : (n : ℕ) (gs : List ℕ) → AreGroups n gs → AreGroups n (star gs)
groups_star n gs all = in_star (λ m. IsGroup n m) gs all (λ a m i p. group_or n a m (all a i) p)

groups_bin : (n : ℕ) (xs ys : List ℕ) → AreGroups n xs → AreGroups n ys → AreGroups n (bin xs ys)
groups_bin n xs ys f g m i = let (a, b, p, q, e) = in_bin xs ys m i in subst (λ x. IsGroup n x) e (group_or n a b (f a p) (g b q))

pub groups_filter : (n : ℕ) (p : ℕ → Bool) (gs : List ℕ) → AreGroups n gs → AreGroups n (filter p gs)
groups_filter n p gs all g i = all g (in_filter p gs g i).0

groups_append : (n : ℕ) (xs ys : List ℕ) → AreGroups n xs → AreGroups n ys → AreGroups n (xs ++ ys)
groups_append n xs ys f g x i = by_either (in_append xs ys x i) (f x) (g x)

groups_normal : (n : ℕ) (gs : List ℕ) → AreGroups n gs → AreGroups n (normal gs)
groups_normal n gs all g i = all g (in_normal gs g i)

groups_united : (n : ℕ) (one : Bool) (xs ys : List ℕ) → AreGroups n xs → AreGroups n ys → AreGroups n (united one xs ys)
groups_united n true xs ys f g = groups_bin n xs ys f g
groups_united n false xs ys f g = groups_bin n (star xs) (star ys) (groups_star n xs f) (groups_star n ys g)

below_without : (n a b : ℕ) → IsBelow n a → IsBelow n (without a b)
below_without n a b low k h = low k (without_left a b k h)

pub ascending_filter : (p : ℕ → Bool) (xs : List ℕ) → IsAscending xs → IsAscending (filter p xs)
ascending_filter p [] h = tt
ascending_filter p (x ∷ xs) h = by_test (p x)
    (λ t. rw t (λ y i. h.0 y (in_filter p xs y i).0, ascending_filter p xs h.1))
    (λ t. rw t (ascending_filter p xs h.1))

ascending_more : (xs : List ℕ) (m : ℕ) → IsAscending xs → ((x : ℕ) → IsIn x xs → x < m) → IsAscending (xs ++ (m ∷ []))
ascending_more [] m h b = (λ x i. absurd i, tt)
ascending_more (x ∷ xs) m h b = (
  λ y i. by_either (in_append xs (m ∷ []) y i) (h.0 y)
      (λ j. by_either j (λ e. let l = b x (inl refl) in omega arith) (λ k. absurd k)),
  ascending_more xs m h.1 (λ y i. b y (inr i)),
)

-- a set of slots below n is below 2 ^ n
pub below_pow : (n m : ℕ) → IsBelow n m → m < 2 ^ n
below_pow n m low =
    let e : m ≡ m % 2 ^ n = same_mask _ _ (λ k h. has_low m n k (low k h) h) (λ k h. (low_has m n k h).1) in
    let l = under m n in subst (λ z. z < 2 ^ n) (sym e) l

pub pow_below : (n m : ℕ) → m < 2 ^ n → IsBelow n m
pow_below n m l k h = let (b, p) = low_has m n k (subst (λ z. Has z k) (let e : m ≡ m % 2 ^ n = sym (small m (2 ^ n) l) in e) h) in b
  where
    small : (a b : ℕ) → a < b → a % b ≡ a
    small a b l = mod-eq_of_lt l

-- the first n slots
pub in_all : (n k : ℕ) → Has (all_true n) k → k < n
in_all n k h = pow_below n (all_true n) (top_lt n) k h

pub some_slot : (m : ℕ) → (m ≡ 0 → ⊥) → (k : ℕ) × Has m k
some_slot m ne = by_test (meets m m) (λ t. let (k, h, i) = meet_slot m m t in (k, h))
    (λ t. absurd (ne (empty_mask m (λ k h. not_both (meets_at m m k h h) t))))

groups_parts : (n : ℕ) (f : ℕ → ℕ) (gs : List ℕ) → ((g : ℕ) → IsIn g gs → IsBelow n (f g)) → AreGroups n (parts f gs)
groups_parts n f gs low g i = let (h, j, e, ne) = in_parts f gs g i in
    record { some = some_slot g ne; below = subst (λ x. IsBelow n x) e (low h j) }

module _ (n : ℕ) (v : Shares) (p : IsValue n v) where
  abbrev all : AreGroups n v.groups
  all = groups_of n v p

  pub unify_value : (x t : Side) → IsValue n (unify x t v)
  unify_value x t = value_normal n v.slots
      (missing (bit_or (slots_of x) (slots_of t)) v.groups
      ++ united (is_free v.free x || is_free v.free t) (rel (slots_of x) v.groups) (rel (slots_of t) v.groups))
      _ p.slots
      (groups_append n (missing (bit_or (slots_of x) (slots_of t)) v.groups) _ (groups_filter n _ v.groups all)
      (groups_united n (is_free v.free x || is_free v.free t) (rel (slots_of x) v.groups) (rel (slots_of t) v.groups) (groups_filter n _ v.groups all)
      (groups_filter n _ v.groups all)))
      (below_without n v.free _ p.free)

  pub answered_value : (a : ℕ) (answer : List ℕ) (fa : ℕ) → IsValue n (answered a answer fa v)
  answered_value a answer fa = value_normal n v.slots
      (missing a v.groups ++ filter (λ g. has answer (bit_and a g)) (star (rel a v.groups))) _ p.slots
      (groups_append n (missing a v.groups) _ (groups_filter n _ v.groups all)
      (groups_filter n _ (star (rel a v.groups)) (groups_star n (rel a v.groups) (groups_filter n _ v.groups all))))
      (below_without n v.free _ p.free)

  pub havocked_value : (a : ℕ) → IsValue n (havocked a v)
  havocked_value a = value_normal n v.slots (missing a v.groups ++ star (rel a v.groups)) _ p.slots
      (groups_append n (missing a v.groups) _ (groups_filter n _ v.groups all) (groups_star n (rel a v.groups) (groups_filter n _ v.groups all)))
      (below_without n v.free _ p.free)

  pub grounded_value : (a : ℕ) → IsValue n (grounded a v)
  grounded_value a = value_from n v.slots _ _ p.slots (ascending_filter _ v.groups p.ascending) (groups_filter n _ v.groups all)
      (below_without n v.free _ p.free)

  pub same_value : (a b : ℕ) → IsValue n (same a b v)
  same_value a b = value_from n v.slots _ _ p.slots (ascending_filter _ v.groups p.ascending) (groups_filter n _ v.groups all) p.free

  pub freed_value : (x : ℕ) → x < n → IsValue n (freed x v)
  freed_value x l = value_from n v.slots _ _ p.slots p.ascending all
      (λ k h. by_either (has_or v.free (mask_of x) k h) (p.free k) (λ i. subst (λ z. z < n) (sym (of_has x k i)) l))

  pub widen_value : IsValue (suc n) (widen v)
  widen_value = value_from (suc n) (suc v.slots) _ _ (ap suc p.slots)
      (ascending_more v.groups (mask_of v.slots) p.ascending (λ x i. subst (λ z. x < 2 ^ z) (sym p.slots) (below_pow n x (p.below x i))))
      (groups_append (suc n) v.groups _ (λ g i. record { some = p.inhabited g i; below = λ k h. let l = p.below g i k h in omega arith })
      (λ g i. by_either i (λ e. subst (λ x. IsGroup (suc n) x) e one) (λ j. absurd j)))
      (λ k h. by_either (has_or v.free (mask_of v.slots) k h) (λ i. let l = p.free k i in omega arith) (λ i. last k i))
    where
      last : (k : ℕ) → Has (mask_of v.slots) k → k < suc n
      last k h = let e = of_has v.slots k h in let d = p.slots in omega arith

      one : IsGroup (suc n) (mask_of v.slots)
      one = record { some = (v.slots, has_of v.slots); below = last }

  pub first_value : (m : ℕ) → IsValue m (first_slots m v)
  first_value m = value_from m m (parts (λ g. g % 2 ^ m) v.groups) _ refl (normal_ascending (filter (λ g. not (nat_eq g 0)) (map (λ g. g % 2 ^ m) v.groups)))
      (groups_parts m (λ g. g % 2 ^ m) v.groups (λ g i k h. (low_has g m k h).0)) (λ k h. (low_has v.free m k h).0)

  pub last_value : (f m : ℕ) → n ≡ f + m → IsValue m (last_slots f m v)
  last_value f m e = value_from m m (parts (λ g. g / 2 ^ f) v.groups) _ refl (normal_ascending (filter (λ g. not (nat_eq g 0)) (map (λ g. g / 2 ^ f) v.groups)))
      (groups_parts m (λ g. g / 2 ^ f) v.groups (λ g i k h. let l = p.below g i (f + k) (high_has g f k h) in omega arith))
      (λ k h. let l = p.free (f + k) (high_has v.free f k h) in omega arith)
