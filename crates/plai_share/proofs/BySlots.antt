-- Unions of two sets, split by a slot.
use Rattle.std.proofs.Common.{◌≡◌, ℕ, ◌<◌, ◌≤◌, Bool, true, false, not, bit_or, List, [], ◌∷◌, ◌++◌, map, length, refl, sym, ap, subst, ◌∙◌, arith}
use Rattle.plai_base.specs.Mask.{has_slot, mask_of}
use Rattle.plai_domain.specs.Outcomes.{most_groups}
use Rattle.plai_share_laws.specs.Groups.{Has, normal, bin}
use Rattle.plai_share_laws.proofs.Members.{IsIn, IsWithin}
use Rattle.plai_share_laws.proofs.Masks.{by_test, same_mask, or_left, of_has}
use Rattle.plai_share_laws.proofs.Lists.{by_either, in_append, append_left, append_right, in_map, map_in, in_filter, filter_in, in_normal, normal_in}
use Rattle.plai_share_laws.proofs.Sets.{part_or, or_assoc, in_bin, bin_in, bin_within}
use Rattle.plai_share.specs.Splitting.{having, lacking, with_slot}
use Rattle.plai_share.proofs.InOrder.{same_normal}
use Rattle.plai_share.proofs.AllUnions.{less_far}

-- a slot that is there already adds nothing
absorbed : (a b slot : ℕ) → Has a slot → bit_or a (bit_or (mask_of slot) b) ≡ bit_or a b
absorbed a b slot h = sym (or_assoc a (mask_of slot) b) ∙ ap (λ m. bit_or m b)
    (same_mask (bit_or a (mask_of slot)) a (part_or a (mask_of slot) a (λ k i. i) (λ k i. subst (Has a) (sym (of_has slot k i)) h)) (or_left a (mask_of slot)))

module _ (slot : ℕ) (left right : List ℕ) where
  some : (xs : List ℕ) → IsWithin (having slot xs) xs
  some xs x i = (in_filter (λ m. has_slot m slot) xs x i).0

  others : (xs : List ℕ) → IsWithin (lacking slot xs) xs
  others xs x i = (in_filter (λ m. not (has_slot m slot)) xs x i).0

  with_it : (xs : List ℕ) (m : ℕ) → IsIn m xs → has_slot m slot ≡ true → IsIn m (having slot xs)
  with_it xs m i t = filter_in (λ m. has_slot m slot) xs m i t

  without_it : (xs : List ℕ) (m : ℕ) → IsIn m xs → has_slot m slot ≡ false → IsIn m (lacking slot xs)
  without_it xs m i t = filter_in (λ m. not (has_slot m slot)) xs m i (ap not t)

  low_within : IsWithin (bin (lacking slot left) (lacking slot right)) (bin left right)
  low_within = bin_within (lacking slot left) (lacking slot right) left right (others left) (others right)

  mixed_within : IsWithin (bin (lacking slot left) (having slot right)) (bin left right)
  mixed_within = bin_within (lacking slot left) (having slot right) left right (others left) (some right)

  high_within : IsWithin (bin (having slot left) (with_slot slot right)) (bin left right)
  high_within x i =
      let (a, b, p, q, e) = in_bin (having slot left) (with_slot slot right) x i in
      let (p', h) = in_filter (λ m. has_slot m slot) left a p in
      by_either (in_append (map (bit_or (mask_of slot)) (lacking slot right)) (having slot right) b (in_normal _ b q))
      (λ j. let (r, k, d) = in_map (bit_or (mask_of slot)) (lacking slot right) b j in
      subst (λ z. IsIn z (bin left right)) (sym (absorbed a r slot h) ∙ ap (bit_or a) d ∙ e) (bin_in left right a r p' (others right r k)))
      (λ j. subst (λ z. IsIn z (bin left right)) e (bin_in left right a b p' (some right b j)))

  pub low_stops : most_groups < length (normal (bin (lacking slot left) (lacking slot right))) → most_groups < length (normal (bin left right))
  low_stops h = let k = less_far (bin (lacking slot left) (lacking slot right)) (bin left right) low_within in omega (arith, k, h)

  pub mixed_stops : most_groups < length (normal (bin (lacking slot left) (having slot right))) → most_groups < length (normal (bin left right))
  mixed_stops h = let k = less_far (bin (lacking slot left) (having slot right)) (bin left right) mixed_within in omega (arith, k, h)

  pub high_stops : most_groups < length (normal (bin (having slot left) (with_slot slot right))) → most_groups < length (normal (bin left right))
  high_stops h = let k = less_far (bin (having slot left) (with_slot slot right)) (bin left right) high_within in omega (arith, k, h)

  module _ (low high mixed : List ℕ) (e : low ≡ normal (bin (lacking slot left) (lacking slot right)))
      (f : high ≡ normal (bin (having slot left) (with_slot slot right))) (g : mixed ≡ normal (bin (lacking slot left) (having slot right))) where
    in_low : (x : ℕ) → IsIn x (bin (lacking slot left) (lacking slot right)) → IsIn x ((low ++ high) ++ mixed)
    in_low x i = append_left (low ++ high) mixed x (append_left low high x (subst (λ zs. IsIn x zs) (sym e) (normal_in _ x i)))

    in_high : (x : ℕ) → IsIn x (bin (having slot left) (with_slot slot right)) → IsIn x ((low ++ high) ++ mixed)
    in_high x i = append_left (low ++ high) mixed x (append_right low high x (subst (λ zs. IsIn x zs) (sym f) (normal_in _ x i)))

    in_mixed : (x : ℕ) → IsIn x (bin (lacking slot left) (having slot right)) → IsIn x ((low ++ high) ++ mixed)
    in_mixed x i = append_right (low ++ high) mixed x (subst (λ zs. IsIn x zs) (sym g) (normal_in _ x i))

    there : IsWithin (bin left right) ((low ++ high) ++ mixed)
    there x i =
        let (a, b, p, q, d) = in_bin left right x i in
        subst (λ z. IsIn z ((low ++ high) ++ mixed)) d (by_test (has_slot a slot)
        (λ t. by_test (has_slot b slot)
        (λ s. in_high (bit_or a b) (bin_in (having slot left) (with_slot slot right) a b (with_it left a p t)
        (normal_in _ b (append_right (map (bit_or (mask_of slot)) (lacking slot right)) (having slot right) b (with_it right b q s)))))
        (λ s. in_high (bit_or a b) (subst (λ z. IsIn z (bin (having slot left) (with_slot slot right))) (absorbed a b slot t)
        (bin_in (having slot left) (with_slot slot right) a (bit_or (mask_of slot) b) (with_it left a p t)
        (normal_in _ (bit_or (mask_of slot) b) (append_left (map (bit_or (mask_of slot)) (lacking slot right)) (having slot right) (bit_or (mask_of slot) b)
        (map_in (bit_or (mask_of slot)) (lacking slot right) b (without_it right b q s))))))))
        (λ t. by_test (has_slot b slot)
        (λ s. in_mixed (bit_or a b) (bin_in (lacking slot left) (having slot right) a b (without_it left a p t) (with_it right b q s)))
        (λ s. in_low (bit_or a b) (bin_in (lacking slot left) (lacking slot right) a b (without_it left a p t) (without_it right b q s)))))

    back : IsWithin ((low ++ high) ++ mixed) (bin left right)
    back x i = by_either (in_append (low ++ high) mixed x i)
        (λ j. by_either (in_append low high x j)
        (λ k. low_within x (in_normal _ x (subst (λ zs. IsIn x zs) e k)))
        (λ k. high_within x (in_normal _ x (subst (λ zs. IsIn x zs) f k))))
        (λ j. mixed_within x (in_normal _ x (subst (λ zs. IsIn x zs) g j)))

    pub split_same : normal ((low ++ high) ++ mixed) ≡ normal (bin left right)
    split_same = same_normal ((low ++ high) ++ mixed) (bin left right) back there
