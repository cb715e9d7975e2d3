-- What the text of a value tells.
use Rattle.std.proofs.Common.{◌≡◌, ℕ, ◌≤◌, ◌<◌, List, [], ◌∷◌, ◌++◌, map, sym, ap, subst, ◌∙◌, arith, append_assoc, codes}
use Rattle.std.specs.List.{join_with_byte}
use Rattle.plai_base.specs.Mask.{slots_of}
use Rattle.plai_terms.specs.declared.abs.Abs.{Abs}
use Rattle.plai_terms.specs.declared.abs.Abs.TheVariants.{Nothing}
use Rattle.plai_terms.specs.Groups.{ordered, slot_text, group_text, groups_text}
use Rattle.plai_terms.specs.Pattern as text
use Rattle.plai_domain.specs.Conditions.{most_arguments, IsValue}
use Rattle.plai_domain.specs.Printed.{IsPrinted}
use Rattle.plai_share_laws.specs.Groups.{Has}
use Rattle.plai_share_laws.specs.Shares.{Shares}
use Rattle.plai_share_laws.specs.Sharing.{abs_of, shares_of, sharing}
use Rattle.plai_share_laws.proofs.Members.{IsIn, IsWithin}
use Rattle.plai_share_laws.proofs.Ordered as plain
use Rattle.plai_share_laws.proofs.Lists.{in_map, map_in, same_list}
use Rattle.plai_share_laws.proofs.Canonical.{is_value}
use Rattle.plai_share_laws.proofs.Texts.{Lacks, IsPiece, ArePieces, cut, joined_same, map_same, slot_in, in_slots, slots_tell, AreSlots, joined_slots}
use Rattle.plai_share_laws.proofs.Texts.{group_piece, group_same, groups_bytes, free_bytes, in_ordered, ordered_in}

layout : (a b : List ℕ) → codes "sh={" ++ a ++ codes "} fr={" ++ b ++ codes "}"
    ≡ 115 ∷ 104 ∷ 61 ∷ 123 ∷ (a ++ 125 ∷ (32 ∷ 102 ∷ 114 ∷ 61 ∷ 123 ∷ (b ++ 125 ∷ [])))
layout a b = simp append_assoc

-- a value of few arguments has slots below 64
module _ (n : ℕ) (few : n ≤ most_arguments) where
  module _ (v : Shares) (p : plain.IsValue n v) where
    low : (g : ℕ) → IsIn g v.groups → (k : ℕ) → Has g k → k < 64
    low g i k h = let l : k < n = p.below g i k h in omega (arith, l, few)

    low_free : (k : ℕ) → Has v.free k → k < 64
    low_free k h = let l : k < n = p.free k h in omega (arith, l, few)

    abbrev listed : List (List ℕ)
    listed = map slots_of v.groups

    are_slots : (xs : List ℕ) → IsIn xs (ordered listed) → AreSlots xs
    are_slots xs i k j =
        let (g, m, e) = in_map slots_of v.groups xs (in_ordered listed xs i) in
        (slot_in g k (subst (λ z. IsIn k z) (sym e) j)).0

    some : (xs : List ℕ) → IsIn xs (ordered listed) → xs ≡ [] → ⊥
    some xs i d =
        let (g, m, e) = in_map slots_of v.groups xs (in_ordered listed xs i) in
        let (k, h) = p.inhabited g m in
        let j : IsIn k (slots_of g) = in_slots g k (low g m k h) h in
        subst (λ z. IsIn k z) (e ∙ d) j

  module _ (v w : Shares) (p : plain.IsValue n v) (q : plain.IsValue n w) where
    within : ordered (map slots_of v.groups) ≡ ordered (map slots_of w.groups) → IsWithin v.groups w.groups
    within e g i =
        let j = ordered_in (map slots_of v.groups) (slots_of g) (map_in slots_of v.groups g i) in
        let (h, k, d) = in_map slots_of w.groups (slots_of g) (in_ordered (map slots_of w.groups) (slots_of g) (subst (λ l. IsIn (slots_of g) l) e j)) in
        let same : h ≡ g = slots_tell h g (low w q h k) (low v p g i) d in
        subst (λ z. IsIn z w.groups) same k

  group_pieces : (v : Shares) → plain.IsValue n v → ArePieces 44 (map group_text (ordered (map slots_of v.groups)))
  group_pieces v p x i =
      let (xs, j, e) = in_map group_text (ordered (map slots_of v.groups)) x i in
      subst (λ z. IsPiece 44 z) e (group_piece xs (are_slots v p xs j) (some v p xs j))

  same_text : (v w : Shares) → plain.IsValue n v → plain.IsValue n w → groups_text v.groups v.free ≡ groups_text w.groups w.free → v ≡ w
  same_text v w p q e =
      let a = join_with_byte 44 (map group_text (ordered (map slots_of v.groups))) in
      let b = join_with_byte 44 (map group_text (ordered (map slots_of w.groups))) in
      let c = join_with_byte 44 (map slot_text (slots_of v.free)) in
      let d = join_with_byte 44 (map slot_text (slots_of w.free)) in
      let t : 115 ∷ 104 ∷ 61 ∷ 123 ∷ (a ++ 125 ∷ (32 ∷ 102 ∷ 114 ∷ 61 ∷ 123 ∷ (c ++ 125 ∷ [])))
      ≡ 115 ∷ 104 ∷ 61 ∷ 123 ∷ (b ++ 125 ∷ (32 ∷ 102 ∷ 114 ∷ 61 ∷ 123 ∷ (d ++ 125 ∷ []))) = sym (layout a c) ∙ e ∙ layout b d in
      let (f, g) = after_first a b (32 ∷ 102 ∷ 114 ∷ 61 ∷ 123 ∷ (c ++ 125 ∷ [])) (32 ∷ 102 ∷ 114 ∷ 61 ∷ 123 ∷ (d ++ 125 ∷ []))
      (groups_bytes (ordered (map slots_of v.groups)) (are_slots v p)) (groups_bytes (ordered (map slots_of w.groups)) (are_slots w q)) t in
      let h = after_second c d (free_bytes (slots_of v.free) (λ k i. (slot_in v.free k i).0))
      (free_bytes (slots_of w.free) (λ k i. (slot_in w.free k i).0)) g in
      let free : v.free ≡ w.free = slots_tell v.free w.free (low_free v p) (low_free w q)
      (joined_slots 44 (slots_of v.free) (slots_of w.free) (λ d. omega (arith, d.0)) (λ k i. (slot_in v.free k i).0) (λ k i. (slot_in w.free k i).0) h) in
      let lists : ordered (map slots_of v.groups) ≡ ordered (map slots_of w.groups) =
      map_same group_text (ordered (map slots_of v.groups)) (ordered (map slots_of w.groups))
      (λ x y i j s. group_same x y (are_slots v p x i) (are_slots w q y j) s)
      (joined_same 44 (map group_text (ordered (map slots_of v.groups))) (map group_text (ordered (map slots_of w.groups))) (group_pieces v p)
      (group_pieces w q) f) in
      let groups : v.groups ≡ w.groups = same_list v.groups w.groups p.ascending q.ascending (within v w p q lists) (within w v q p (sym lists)) in
      same_shares (p.slots ∙ sym q.slots) groups free
    where
      after_first : (a b r s : List ℕ) → Lacks 125 a → Lacks 125 b → 115 ∷ 104 ∷ 61 ∷ 123 ∷ (a ++ 125 ∷ r) ≡ 115 ∷ 104 ∷ 61 ∷ 123 ∷ (b ++ 125 ∷ s)
          → (a ≡ b) × (r ≡ s)
      after_first a b r s h k t = let u : a ++ 125 ∷ r ≡ b ++ 125 ∷ s = cc in cut 125 a b r s h k u

      after_second : (c d : List ℕ) → Lacks 125 c → Lacks 125 d
          → 32 ∷ 102 ∷ 114 ∷ 61 ∷ 123 ∷ (c ++ 125 ∷ []) ≡ 32 ∷ 102 ∷ 114 ∷ 61 ∷ 123 ∷ (d ++ 125 ∷ []) → c ≡ d
      after_second c d h k t = let u : c ++ 125 ∷ [] ≡ d ++ 125 ∷ [] = cc in (cut 125 c d [] [] h k u).0

      same_shares : v.slots ≡ w.slots → v.groups ≡ w.groups → v.free ≡ w.free → v ≡ w
      same_shares a b c = λ i. record { slots = a i; groups = b i; free = c i }

not_nothing : (n : ℕ) (a : Abs) → IsValue sharing n a → a ≡ Nothing → ⊥
not_nothing n a h e = let same : Nothing ≡ abs_of (shares_of a) = sym e ∙ h.first_is in cc

text_is : (n : ℕ) (a : Abs) → IsValue sharing n a → text.pattern_text a ≡ groups_text (shares_of a).groups (shares_of a).free
text_is n a h = ap text.pattern_text h.first_is

-- Theorem: no value is the pattern of no answer, and different ones have different texts.
pub sharing_printed : IsPrinted sharing
sharing_printed =
    record {
      some = not_nothing;
      arity = λ n a h. ap text.arity_of h.first_is ∙ h.order.first.slots;
      apart = λ n a b few h k e.
          h.first_is
          ∙ ap abs_of (same_text n few (shares_of a) (shares_of b) (is_value n (shares_of a) h.order.first) (is_value n (shares_of b) k.order.first)
          (sym (text_is n a h) ∙ e ∙ text_is n b k))
          ∙ sym k.first_is;
    }
