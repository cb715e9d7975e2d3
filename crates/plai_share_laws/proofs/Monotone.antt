-- Each operation is monotone, and the sets that it forms grow.
use Rattle.std.proofs.Common.{◌≡◌, ℕ, Bool, true, false, cond, ◌||◌, bit_and, bit_or, List, [], ◌∷◌, filter, refl, subst, inl, inr}
use Rattle.plai_base.specs.Mask.{has_slot, mask_of}
use Rattle.plai_share_laws.proofs.Members.{IsWithin}
use Rattle.plai_base.specs.Sets.{has}
use Rattle.plai_share_laws.specs.Groups.{IsPart, meets, without, rel, missing, star, near}
use Rattle.plai_share_laws.specs.Shares.{Shares, Side, Slot, Other, slots_of, is_free, united, unify_groups, lost, unify, unify_formed, back_groups, answered}
use Rattle.plai_share_laws.specs.Shares.{answered_formed, havocked, havocked_formed, grounded, same, any_meets, var_at, nonvar_at}
use Rattle.plai_share_laws.proofs.Ordered.{Leq, AreCovered, UpTo}
use Rattle.plai_share_laws.proofs.Masks.{by_test, not_both, has_or, or_left, or_right, meets_at, meet_slot, meets_or_left, meets_or_right, without_left}
use Rattle.plai_share_laws.proofs.Masks.{without_right, has_without, has_zero}
use Rattle.plai_share_laws.proofs.Lists.{by_either, in_filter, filter_in, contains_in, in_contains}
use Rattle.plai_share_laws.proofs.Local.{any_at}
use Rattle.plai_share_laws.proofs.Sets.{star_within, bin_within, near_part, filter_within, append_within, normal_within, member_star, in_near, near_in}

-- unify
pub united_within : (small big : Bool) (r t u v : List ℕ) → (big ≡ true → small ≡ true) → IsWithin r u → IsWithin t v
    → IsWithin (united small r t) (united big u v)
united_within true true r t u v h f g = bin_within r t u v f g
united_within true false r t u v h f g = bin_within r t (star u) (star v) (member_star r u f) (member_star t v g)
united_within false true r t u v h f g = absurd (not_both (h refl) refl)
united_within false false r t u v h f g = bin_within (star r) (star t) (star u) (star v) (star_within r u f) (star_within t v g)

pub unify_groups_within : (small big : Bool) (a b : ℕ) (s u : List ℕ) → (big ≡ true → small ≡ true) → IsWithin s u
    → IsWithin (unify_groups small a b s) (unify_groups big a b u)
unify_groups_within small big a b s u h f =
    normal_within _ _ (append_within (missing (bit_or a b) s) (united small (rel a s) (rel b s)) (missing (bit_or a b) u) (united big (rel a u) (rel b u))
    (filter_within _ s u f)
    (united_within small big (rel a s) (rel b s) (rel a u) (rel b u) h (filter_within _ s u f) (filter_within _ s u f)))

near_or_left : (a b : ℕ) (s : List ℕ) → IsPart (near a s) (near (bit_or a b) s)
near_or_left a b s k h = let (g, i, e, p) = in_near a s k h in near_in (bit_or a b) s g k i (meets_or_left a b g e) p

near_or_right : (a b : ℕ) (s : List ℕ) → IsPart (near b s) (near (bit_or a b) s)
near_or_right a b s k h = let (g, i, e, p) = in_near b s k h in near_in (bit_or a b) s g k i (meets_or_right a b g e) p

-- where fewer groups and more free slots are, fewer free slots are lost; p and q are x and t free in the smaller
pub lost_part : (p q pp qq : Bool) (a b : ℕ) (s u : List ℕ) → (pp ≡ true → p ≡ true) → (qq ≡ true → q ≡ true) → IsWithin s u
    → IsPart (lost p q a b s) (lost pp qq a b u)
lost_part true true pp qq a b s u h i f k l = absurd (has_zero k l)
lost_part true false true true a b s u h i f k l = absurd (not_both (i refl) refl)
lost_part true false true false a b s u h i f k l = near_part a s u f k l
lost_part true false false true a b s u h i f k l = absurd (not_both (i refl) refl)
lost_part true false false false a b s u h i f k l = near_or_left a b u k (near_part a s u f k l)
lost_part false true true qq a b s u h i f k l = absurd (not_both (h refl) refl)
lost_part false true false true a b s u h i f k l = near_part b s u f k l
lost_part false true false false a b s u h i f k l = near_or_right a b u k (near_part b s u f k l)
lost_part false false true qq a b s u h i f k l = absurd (not_both (h refl) refl)
lost_part false false false true a b s u h i f k l = absurd (not_both (i refl) refl)
lost_part false false false false a b s u h i f k l = near_part (bit_or a b) s u f k l

pub without_part : (a b c d : ℕ) → IsPart a c → IsPart d b → IsPart (without a b) (without c d)
without_part a b c d f g k h = has_without c d k (f k (without_left a b k h)) (λ i. without_right a b k h (g k i))

is_free_part : (f g : ℕ) (x : Side) → IsPart g f → is_free g x ≡ true → is_free f x ≡ true
is_free_part f g (Slot x) p h = p x h
is_free_part f g (Other m) p h = h

either_free : (p q pp qq : Bool) → (pp ≡ true → p ≡ true) → (qq ≡ true → q ≡ true) → (pp || qq) ≡ true → (p || q) ≡ true
either_free true q pp qq h i e = refl
either_free false true pp qq h i e = refl
either_free false false true qq h i e = h refl
either_free false false false true h i e = i refl
either_free false false false false h i e = e

module _ (x t : Side) (v w : Shares) (le : Leq v w) where
  pub unify_leq : Leq (unify x t v) (unify x t w)
  unify_leq = record {
    slots = le.slots;
    groups = unify_groups_within _ _ (slots_of x) (slots_of t) _ _
        (either_free _ _ _ _ (is_free_part v.free w.free x le.free) (is_free_part v.free w.free t le.free)) le.groups;
    free = without_part _ _ _ _ le.free
        (lost_part _ _ _ _ (slots_of x) (slots_of t) _ _ (is_free_part v.free w.free x le.free) (is_free_part v.free w.free t le.free) le.groups);
  }

-- the sets formed, by the test and the parts
abbrev formed_by : Bool → List ℕ → List ℕ → List ℕ → List (List ℕ)
formed_by true r t new = united true r t ∷ new ∷ []
formed_by false r t new = star r ∷ star t ∷ united false r t ∷ new ∷ []

formed_is : (b : Bool) (r t new : List ℕ) → cond b (united b r t ∷ new ∷ []) (star r ∷ star t ∷ united b r t ∷ new ∷ []) ≡ formed_by b r t new
formed_is true r t new = refl
formed_is false r t new = refl

formed_grow : (small big : Bool) (r t new u v old : List ℕ) → (big ≡ true → small ≡ true) → IsWithin r u → IsWithin t v → IsWithin new old
    → AreCovered (formed_by small r t new) (formed_by big u v old)
formed_grow true true r t new u v old h f g k x (inl e) =
    (united true u v, inl refl, subst (λ (y : List ℕ). IsWithin y (united true u v)) e (united_within true true r t u v h f g))
formed_grow true true r t new u v old h f g k x (inr (inl e)) = (old, inr (inl refl), subst (λ (y : List ℕ). IsWithin y old) e k)
formed_grow true true r t new u v old h f g k x (inr (inr i)) = absurd i
formed_grow true false r t new u v old h f g k x (inl e) =
    (united false u v, inr (inr (inl refl)), subst (λ (y : List ℕ). IsWithin y (united false u v)) e (united_within true false r t u v h f g))
formed_grow true false r t new u v old h f g k x (inr (inl e)) = (old, inr (inr (inr (inl refl))), subst (λ (y : List ℕ). IsWithin y old) e k)
formed_grow true false r t new u v old h f g k x (inr (inr i)) = absurd i
formed_grow false true r t new u v old h f g k x i = absurd (not_both (h refl) refl)
formed_grow false false r t new u v old h f g k x (inl e) = (star u, inl refl, subst (λ (y : List ℕ). IsWithin y (star u)) e (star_within r u f))
formed_grow false false r t new u v old h f g k x (inr (inl e)) = (star v, inr (inl refl), subst (λ (y : List ℕ). IsWithin y (star v)) e (star_within t v g))
formed_grow false false r t new u v old h f g k x (inr (inr (inl e))) =
    (united false u v, inr (inr (inl refl)), subst (λ (y : List ℕ). IsWithin y (united false u v)) e (united_within false false r t u v h f g))
formed_grow false false r t new u v old h f g k x (inr (inr (inr (inl e)))) = (old, inr (inr (inr (inl refl))), subst (λ (y : List ℕ). IsWithin y old) e k)
formed_grow false false r t new u v old h f g k x (inr (inr (inr (inr i)))) = absurd i

-- each set that unify forms is contained in one that it forms from a larger value
pub unify_grows : (x t : Side) (v w : Shares) → Leq v w → AreCovered (unify_formed x t v) (unify_formed x t w)
unify_grows x t v w le =
    rw (
      formed_is (is_free v.free x || is_free v.free t) (rel (slots_of x) v.groups) (rel (slots_of t) v.groups) (unify x t v).groups,
      formed_is (is_free w.free x || is_free w.free t) (rel (slots_of x) w.groups) (rel (slots_of t) w.groups) (unify x t w).groups,
    )
    (formed_grow _ _ _ _ _ _ _ _
    (either_free _ _ _ _ (is_free_part v.free w.free x le.free) (is_free_part v.free w.free t le.free))
    (filter_within _ v.groups w.groups le.groups) (filter_within _ v.groups w.groups le.groups) (unify_leq x t v w le).groups)

-- the star of the groups that meet the set
rel_star_within : (a : ℕ) (s u : List ℕ) → IsWithin s u → IsWithin (star (rel a s)) (star (rel a u))
rel_star_within a s u f = star_within (rel a s) (rel a u) (filter_within _ s u f)

-- an answer
module _ (a : ℕ) (answer larger : List ℕ) (fa fb : ℕ) (less : IsWithin answer larger) (freer : IsPart fb fa) (v w : Shares) (le : Leq v w) where
  kept_within : IsWithin (filter (λ g. has answer (bit_and a g)) (star (rel a v.groups))) (filter (λ g. has larger (bit_and a g)) (star (rel a w.groups)))
  kept_within x m =
      let (p, e) = in_filter (λ g. has answer (bit_and a g)) (star (rel a v.groups)) x m in
      filter_in (λ g. has larger (bit_and a g)) (star (rel a w.groups)) x (rel_star_within a v.groups w.groups le.groups x p)
      (in_contains larger (bit_and a x) (less _ (contains_in answer (bit_and a x) e)))

  pub answered_leq : Leq (answered a answer fa v) (answered a larger fb w)
  answered_leq = record {
    slots = le.slots;
    groups = normal_within _ _ (append_within (missing a v.groups) _ (missing a w.groups) _ (filter_within _ v.groups w.groups le.groups) kept_within);
    free = without_part _ _ _ _ le.free (λ k h. near_part (without a fb) v.groups w.groups le.groups k (nearer k h));
  }
    where
      nearer : IsPart (near (without a fa) v.groups) (near (without a fb) v.groups)
      nearer k h =
          let (g, m, e, p) = in_near (without a fa) v.groups k h in
          let (l, q, o) = meet_slot (without a fa) g e in
          near_in (without a fb) v.groups g k m
          (meets_at (without a fb) g l (has_without a fb l (without_left a fa l q) (λ r. without_right a fa l q (freer l r))) o) p

  pub answered_grows : AreCovered (answered_formed a answer v) (answered_formed a larger w)
  answered_grows x (inl e) = (
    star (rel a w.groups),
    inl refl,
    subst (λ (y : List ℕ). IsWithin y (star (rel a w.groups))) e (rel_star_within a v.groups w.groups le.groups),
  )
  answered_grows x (inr (inl e)) = (
    back_groups a larger w.groups,
    inr (inl refl),
    subst (λ (y : List ℕ). IsWithin y (back_groups a larger w.groups)) e answered_leq.groups,
  )
  answered_grows x (inr (inr i)) = absurd i

-- the actions
module _ (a : ℕ) (v w : Shares) (le : Leq v w) where
  pub havocked_leq : Leq (havocked a v) (havocked a w)
  havocked_leq = record {
    slots = le.slots;
    groups = normal_within _ _ (append_within (missing a v.groups) _ (missing a w.groups) _ (filter_within _ v.groups w.groups le.groups)
        (rel_star_within a v.groups w.groups le.groups));
    free = without_part _ _ _ _ le.free (near_part a v.groups w.groups le.groups);
  }

  pub havocked_grows : AreCovered (havocked_formed a v) (havocked_formed a w)
  havocked_grows x (inl e) = (
    star (rel a w.groups),
    inl refl,
    subst (λ (y : List ℕ). IsWithin y (star (rel a w.groups))) e (rel_star_within a v.groups w.groups le.groups),
  )
  havocked_grows x (inr (inl e)) = ((havocked a w).groups, inr (inl refl), subst (λ (y : List ℕ). IsWithin y (havocked a w).groups) e havocked_leq.groups)
  havocked_grows x (inr (inr i)) = absurd i

  pub grounded_leq : Leq (grounded a v) (grounded a w)
  grounded_leq = record {
    slots = le.slots;
    groups = filter_within _ v.groups w.groups le.groups;
    free = without_part _ _ _ _ le.free (near_part a v.groups w.groups le.groups);
  }

  pub same_leq : (b : ℕ) → Leq (same a b v) (same a b w)
  same_leq b = record { slots = le.slots; groups = filter_within _ v.groups w.groups le.groups; free = le.free }

or_part : (a b c : ℕ) → IsPart a b → IsPart (bit_or a c) (bit_or b c)
or_part a b c f k h = by_either (has_or a c k h) (λ l. or_left b c k (f k l)) (or_right b c k)

any_grows : (a : ℕ) (gs hs : List ℕ) → IsWithin gs hs → any_meets a gs ≡ true → any_meets a hs ≡ true
any_grows a [] hs f e = cc
any_grows a (g ∷ gs) hs f e = by_test (meets a g) (λ t. any_at a hs g (f g (inl refl)) t)
    (λ t. any_grows a gs hs (λ x i. f x (inr i)) (rw t at e))

-- an order with none below all
pub var_leq : (t : Side) (v w : Shares) → Leq v w → UpTo (var_at t v) (var_at t w)
var_leq (Other m) v w le = tt
var_leq (Slot x) v w le = by_test (any_meets (mask_of x) v.groups)
    (λ e. rw (e, any_grows (mask_of x) v.groups w.groups le.groups e)
    (record { slots = le.slots; groups = le.groups; free = or_part w.free v.free (mask_of x) le.free }))
    (λ e. rw e tt)

pub nonvar_leq : (t : Side) (v w : Shares) → Leq v w → UpTo (nonvar_at t v) (nonvar_at t w)
nonvar_leq (Other m) v w le = le
nonvar_leq (Slot x) v w le = by_test (has_slot w.free x)
    (λ e. rw (le.free x e) tt)
    (λ e. by_test (has_slot v.free x) (λ d. rw d tt) (λ d. rw (d, e) le))
