-- What a loop over groups needs that makes all their unions, and the order as a test.
use Rattle.std.proofs.Common.{◌≡◌, ◌↔◌, ℕ, ◌≤◌, true, bit_or, List, [], ◌∷◌, ◌++◌, map, length, refl, sym, ◌∙◌, subst, inl, inr}
use Rattle.std.proofs.lemmas.Bool.{eq-eqb, eqb-true}
use Rattle.plai_base.specs.Mask.{has_slot}
use Rattle.plai_base.specs.Sets.{has, has_all}
use Rattle.plai_terms.specs.declared.abs.Abs.{Abs}
use Rattle.plai_domain.specs.Conditions.{IsValue}
use Rattle.plai_share_laws.specs.Groups.{Has, without, normal, star}
use Rattle.plai_share_laws.specs.Shares.{Shares, leq}
use Rattle.plai_share_laws.specs.Sharing.{shares_of, Leq, sharing}
use Rattle.plai_share_laws.proofs.Members.{IsIn, IsWithin}
use Rattle.plai_share_laws.proofs.Ordered as plain
use Rattle.plai_share_laws.proofs.Masks.{by_test, not_both, has_zero, empty_mask, without_left, without_right, has_without}
use Rattle.plai_share_laws.proofs.Lists.{by_either, in_append, append_left, append_right, normal_ascending, same_list, contains_in, in_contains}
use Rattle.plai_share_laws.proofs.Sets.{star_within, normal_within}
use Rattle.plai_share_laws.proofs.Order.{less_long}
use Rattle.plai_share_laws.proofs.Parts.{and_parts, and_both}
use Rattle.plai_share_laws.proofs.Canonical.{is_value, in_order, leq_shares}

-- ---- one more group in a loop that makes all unions

turned : (xs : List ℕ) (a : ℕ) → IsWithin (xs ++ (a ∷ [])) (a ∷ xs)
turned xs a x i = by_either (in_append xs (a ∷ []) x i) inr (λ j. by_either j inl (λ k. absurd k))

turned_back : (xs : List ℕ) (a : ℕ) → IsWithin (a ∷ xs) (xs ++ (a ∷ []))
turned_back xs a x (inl e) = append_right xs (a ∷ []) x (inl e)
turned_back xs a x (inr i) = append_left xs (a ∷ []) x i

pub star_push : (xs : List ℕ) (a : ℕ) → normal (star (xs ++ (a ∷ []))) ≡ normal (a ∷ (star xs ++ map (bit_or a) (star xs)))
star_push xs a = same_list _ _ (normal_ascending (star (xs ++ (a ∷ [])))) (normal_ascending (star (a ∷ xs)))
    (normal_within (star (xs ++ (a ∷ []))) (star (a ∷ xs)) (star_within (xs ++ (a ∷ [])) (a ∷ xs) (turned xs a)))
    (normal_within (star (a ∷ xs)) (star (xs ++ (a ∷ []))) (star_within (a ∷ xs) (xs ++ (a ∷ [])) (turned_back xs a)))

-- the loop may stop: what is made so far has no more members than the whole
pub star_so_far : (xs ys : List ℕ) → IsWithin xs ys → length (normal (star xs)) ≤ length (normal (star ys))
star_so_far xs ys f = less_long _ _ (normal_ascending (star xs)) (normal_ascending (star ys)) (normal_within (star xs) (star ys) (star_within xs ys f))

-- ---- the order as a test

all_within : (xs ys : List ℕ) → has_all xs (has ys) ≡ true → IsWithin xs ys
all_within [] ys e x i = absurd i
all_within (y ∷ xs) ys e x (inl d) = subst (λ z. IsIn z ys) d (contains_in ys y (and_parts (has ys y) (has_all xs (has ys)) e).0)
all_within (y ∷ xs) ys e x (inr i) = all_within xs ys (and_parts (has ys y) (has_all xs (has ys)) e).1 x i

within_all : (xs ys : List ℕ) → IsWithin xs ys → has_all xs (has ys) ≡ true
within_all [] ys f = refl
within_all (x ∷ xs) ys f = and_both (has ys x) (has_all xs (has ys)) (in_contains ys x (f x (inl refl))) (within_all xs ys (λ z i. f z (inr i)))

leq_true : (v w : Shares) → v.slots ≡ w.slots → leq v w ≡ true → plain.Leq v w
leq_true v w s e =
    let (c, d) = and_parts (has_all v.groups (has w.groups)) _ e in
    let z = eqb-true (without w.free v.free) 0 d in
    record {
      slots = s;
      groups = all_within v.groups w.groups c;
      free = λ k h. by_test (has_slot v.free k) (λ t. t)
          (λ t. absurd (has_zero k (subst (λ m. Has m k) z (has_without w.free v.free k h (λ y. not_both y t)))));
    }

true_leq : (v w : Shares) → plain.Leq v w → leq v w ≡ true
true_leq v w le = and_both (has_all v.groups (has w.groups)) _ (within_all v.groups w.groups le.groups)
    (eq-eqb (without w.free v.free) 0 (empty_mask (without w.free v.free)
    (λ k h. without_right w.free v.free k h (le.free k (without_left w.free v.free k h)))))

-- at values of as many arguments the test is the order
pub leq_tells : (n : ℕ) (a b : Abs) → IsValue sharing n a → IsValue sharing n b → (leq (shares_of a) (shares_of b) ≡ true) ↔ Leq n a b
leq_tells n a b h k =
    let v = shares_of a in
    let w = shares_of b in
    let p = is_value n v h.order.first in
    let q = is_value n w k.order.first in (
      λ e. record { first_is = h.first_is; second_is = k.first_is; order = leq_shares n v w p q (leq_true v w (p.slots ∙ sym q.slots) e) },
      λ l. true_leq v w (in_order n v w l.order).2,
    )
