-- Projection and new slots.
use Rattle.std.proofs.Common.{◌≡◌, ◌≢◌, ℕ, suc, ◌+◌, ◌-◌, ◌*◌, ◌/◌, ◌%◌, ◌^◌, ◌<◌, ◌≤◌, Bool, true, false, not, ◌&&◌, nat_eq, nat_lt, List, map, Some, refl}
use Rattle.std.proofs.Common.{sym, ◌∙◌, ap, subst, inl, arith, add-zero}
use Rattle.std.specs.Int.{bit_at}
use Rattle.std.proofs.lemmas.Bool.{eq-eqb, eqb-true}
use Rattle.std.proofs.lemmas.Bool.Decides.{nat_tests}
use Rattle.std.proofs.lemmas.Nat.{pow_pos}
use Rattle.std.proofs.lemmas.Nat.Bits.{bit_at-zero, bit_at_cat_low, bit_at_cat_high, bit_at_above}
use Rattle.plai_base.specs.Mask.{mask_of}
use Rattle.plai_share_laws.proofs.Members.{IsIn, IsWithin}
use Rattle.plai_share_laws.specs.Groups.{Has}
use Rattle.plai_share_laws.specs.Shares.{Shares, parts, first_slots, last_slots, widen}
use Rattle.plai_share_laws.proofs.Ordered.{Leq}
use Rattle.plai_share_laws.proofs.Meaning.{Instance, IsInstance, group, Describes, first_terms, last_terms, new_term}
use Rattle.plai_share_laws.proofs.Masks.{by_test, not_both, one, has_bit, same_mask, has_or, or_left, or_right, has_of, of_has, has_zero, from_has, has_from}
use Rattle.plai_share_laws.proofs.Lists.{by_either, append_left, append_right, in_filter, filter_in, in_map, map_in, in_normal, normal_in}
use Rattle.plai_share_laws.proofs.Sets.{normal_within, filter_within, map_within, append_within}
use Rattle.plai_share_laws.proofs.Unify.{group_has, has_group}

-- the bits of the parts of a mask
cut : (m n : ℕ) → (m / 2 ^ n) * 2 ^ n + m % 2 ^ n ≡ m
cut m n = let p = pow_pos n in omega arith

pub under : (m n : ℕ) → m % 2 ^ n < 2 ^ n
under m n = let p = pow_pos n in omega arith

module _ (m n k : ℕ) where
  low_bit : k < n → bit_at m k ≡ bit_at (m % 2 ^ n) k
  low_bit l = ap (λ x. bit_at x k) (sym (cut m n)) ∙ bit_at_cat_low (m / 2 ^ n) n (m % 2 ^ n) k l

  pub low_has : Has (m % 2 ^ n) k → (k < n) × Has m k
  low_has h = by_test (nat_lt k n)
      (λ t. let l : k < n = grind (arith, nat_tests) in (l, has_bit m k (low_bit l ∙ one (m % 2 ^ n) k h)))
      (λ t. let l : n ≤ k = grind (arith, nat_tests) in
      let z = bit_at_above (m % 2 ^ n) n k (under m n) l in
      let e = one (m % 2 ^ n) k h in absurd (omega arith))

  pub has_low : k < n → Has m k → Has (m % 2 ^ n) k
  has_low l h = has_bit (m % 2 ^ n) k (sym (low_bit l) ∙ one m k h)

  high_bit : bit_at m (n + k) ≡ bit_at (m / 2 ^ n) k
  high_bit = ap (λ x. bit_at x (n + k)) (sym (cut m n)) ∙ bit_at_cat_high (m / 2 ^ n) n (m % 2 ^ n) (n + k) (under m n) (omega arith)
      ∙ ap (bit_at (m / 2 ^ n)) (let e : (n + k) - n ≡ k = omega arith in e)

  pub high_has : Has (m / 2 ^ n) k → Has m (n + k)
  high_has h = has_bit m (n + k) (high_bit ∙ one (m / 2 ^ n) k h)

  pub has_high : Has m (n + k) → Has (m / 2 ^ n) k
  has_high h = has_bit (m / 2 ^ n) k (sym high_bit ∙ one m (n + k) h)

  raised_bit : bit_at (m * 2 ^ n) (n + k) ≡ bit_at m k
  raised_bit = ap (λ x. bit_at x (n + k)) (sym (add-zero (m * 2 ^ n))) ∙ bit_at_cat_high m n 0 (n + k) (pow_pos n) (omega arith)
      ∙ ap (bit_at m) (let e : (n + k) - n ≡ k = omega arith in e)

  pub raised_has : Has (m * 2 ^ n) (n + k) → Has m k
  raised_has h = has_bit m k (sym raised_bit ∙ one (m * 2 ^ n) (n + k) h)

  pub has_raised : Has m k → Has (m * 2 ^ n) (n + k)
  has_raised h = has_bit (m * 2 ^ n) (n + k) (raised_bit ∙ one m k h)

  pub raised_above : Has (m * 2 ^ n) k → n ≤ k
  raised_above h = by_test (nat_lt k n)
      (λ t. let l : k < n = grind (arith, nat_tests) in
      let e = one (m * 2 ^ n) k h in
      let f = ap (λ x. bit_at x k) (sym (add-zero (m * 2 ^ n))) ∙ bit_at_cat_low m n 0 k l in
      let z = bit_at-zero k in absurd (omega arith))
      (λ t. let l : n ≤ k = grind (arith, nat_tests) in l)

-- parts
pub in_parts : (f : ℕ → ℕ) (gs : List ℕ) (g : ℕ) → IsIn g (parts f gs) → (h : ℕ) × IsIn h gs × (f h ≡ g) × (g ≢ 0)
in_parts f gs g i =
    let (p, e) = in_filter (λ g. not (nat_eq g 0)) (map f gs) g (in_normal _ g i) in
    let (h, q, d) = in_map f gs g p in
    (h, q, d, λ z. let t : not true ≡ true = rw (eq-eqb g 0 z) at e in cc)

pub parts_in : (f : ℕ → ℕ) (gs : List ℕ) (h : ℕ) → IsIn h gs → (f h ≡ 0 → ⊥) → IsIn (f h) (parts f gs)
parts_in f gs h i n = normal_in _ _ (filter_in (λ g. not (nat_eq g 0)) (map f gs) (f h) (map_in f gs h i)
    (by_test (nat_eq (f h) 0) (λ t. absurd (n (eqb-true (f h) 0 t))) (λ t. rw t)))

pub parts_within : (f : ℕ → ℕ) (gs hs : List ℕ) → IsWithin gs hs → IsWithin (parts f gs) (parts f hs)
parts_within f gs hs g = normal_within _ _ (filter_within _ (map f gs) (map f hs) (map_within f gs hs g))

module _ (n : ℕ) (v w : Shares) (le : Leq v w) where
  pub first_leq : Leq (first_slots n v) (first_slots n w)
  first_leq = record {
    slots = refl;
    groups = parts_within (λ g. g % 2 ^ n) v.groups w.groups le.groups;
    free = λ k h. let (l, p) = low_has w.free n k h in has_low v.free n k l (le.free k p);
  }

  pub last_leq : (m : ℕ) → Leq (last_slots n m v) (last_slots n m w)
  last_leq m = record {
    slots = refl;
    groups = parts_within (λ g. g / 2 ^ n) v.groups w.groups le.groups;
    free = λ k h. has_high v.free n k (le.free (n + k) (high_has w.free n k h));
  }

pub widen_leq : (v w : Shares) → Leq v w → Leq (widen v) (widen w)
widen_leq v w le = record {
  slots = ap suc le.slots;
  groups = rw le.slots (append_within v.groups _ w.groups _ le.groups (λ x i. i));
  free = λ k h. by_either (has_or w.free (mask_of w.slots) k h) (λ l. or_left v.free (mask_of v.slots) k (le.free k l))
      (λ l. or_right v.free (mask_of v.slots) k (rw le.slots l));
}

lower : (k n : ℕ) → nat_lt k n ≡ true → k < n
lower k n t = grind (arith, nat_tests)

lower_test : (k n : ℕ) → k < n → nat_lt k n ≡ true
lower_test k n l = grind (arith, nat_tests)

pub and_parts : (p q : Bool) → (p && q) ≡ true → (p ≡ true) × (q ≡ true)
and_parts true q e = (refl, e)
and_parts false q e = cc

pub and_both : (p q : Bool) → p ≡ true → q ≡ true → (p && q) ≡ true
and_both p q e f = rw e f

-- the first slots describe the first terms
pub first_describes : (number n : ℕ) (v : Shares) (i : Instance) → n ≤ v.slots → IsInstance v.slots number i → Describes v i
    → Describes (first_slots n v) (first_terms n i)
first_describes number n v i fits wf d = record {
  groups = λ w k e.
      let (t, o) = and_parts (nat_lt k n) (i.occurs w k) e in
      let l = lower k n t in
      let here = has_low (group i v.slots w) n k l (group_has v.slots number i wf w k o) in
      subst (λ g. IsIn g (parts (λ g. g % 2 ^ n) v.groups)) (same w)
      (parts_in (λ g. g % 2 ^ n) v.groups (group i v.slots w) (d.groups w k o) (λ z. has_zero k (subst (λ g. Has g k) z here)));
  free = λ k h. let (l, p) = low_has v.free n k h in let (y, e) = d.free k p in (y, rw (lower_test k n l) e);
}
  where
    same : (w : ℕ) → group i v.slots w % 2 ^ n ≡ group (first_terms n i) n w
    same w = same_mask _ _
        (λ k h. let (l, p) = low_has (group i v.slots w) n k h in
        has_from ((first_terms n i).occurs w) n k l (and_both (nat_lt k n) (i.occurs w k) (lower_test k n l) (has_group v.slots number i wf w k p)))
        (λ k h. let (l, e) = from_has ((first_terms n i).occurs w) n k h in
        let (t, o) = and_parts (nat_lt k n) (i.occurs w k) e in
        has_low (group i v.slots w) n k l (group_has v.slots number i wf w k o))

-- the last slots describe the last terms
pub last_describes : (number n m : ℕ) (v : Shares) (i : Instance) → v.slots ≡ n + m → IsInstance v.slots number i → Describes v i
    → Describes (last_slots n m v) (last_terms n i)
last_describes number n m v i fits wf d = record {
  groups = λ w k o.
      let here = has_high (group i v.slots w) n k (group_has v.slots number i wf w (n + k) o) in
      subst (λ g. IsIn g (parts (λ g. g / 2 ^ n) v.groups)) (same w)
      (parts_in (λ g. g / 2 ^ n) v.groups (group i v.slots w) (d.groups w (n + k) o) (λ z. has_zero k (subst (λ g. Has g k) z here)));
  free = λ k h. d.free (n + k) (high_has v.free n k h);
}
  where
    same : (w : ℕ) → group i v.slots w / 2 ^ n ≡ group (last_terms n i) m w
    same w = same_mask _ _
        (λ k h. let o = has_group v.slots number i wf w (n + k) (high_has (group i v.slots w) n k h) in
        has_from ((last_terms n i).occurs w) m k (let l = wf.within w (n + k) o in omega arith) o)
        (λ k h. let (l, o) = from_has ((last_terms n i).occurs w) m k h in
        has_high (group i v.slots w) n k (group_has v.slots number i wf w (n + k) o))

-- a new slot describes a new variable
module _ (number y : ℕ) (v : Shares) (i : Instance) (above : number ≤ y) (wf : IsInstance v.slots number i) where
  pub new_wf : IsInstance (suc v.slots) (suc y) (new_term v.slots y i)
  new_wf = record {
    below = λ w k e. by_test (nat_eq k v.slots)
        (λ t. let d = eqb-true w y (rw t at e) in omega arith)
        (λ t. let l = wf.below w k (rw t at e) in omega arith);
    within = λ w k e. by_test (nat_eq k v.slots)
        (λ t. let d = eqb-true k v.slots t in omega arith)
        (λ t. let l = wf.within w k (rw t at e) in omega arith);
    alone = λ k w x e f. by_test (nat_eq k v.slots)
        (λ t. let p : Some y ≡ Some w = rw t at e in let q = eqb-true x y (rw t at f) in cc)
        (λ t. wf.alone k w x (rw t at e) (rw t at f));
    itself = λ k w e. by_test (nat_eq k v.slots)
        (λ t. let p : Some y ≡ Some w = rw t at e in rw t (eq-eqb w y (cc)))
        (λ t. rw t (wf.itself k w (rw t at e)));
  }

  pub new_describes : Describes v i → Describes (widen v) (new_term v.slots y i)
  new_describes d = record {
    groups = λ w k e. by_test (nat_eq k v.slots)
        (λ t. let f = eqb-true w y (rw t at e) in
        append_right v.groups _ _ (inl (subst (λ z. mask_of v.slots ≡ group (new_term v.slots y i) (suc v.slots) z) (sym f) own)))
        (λ t. let o : i.occurs w k ≡ true = rw t at e in
        append_left v.groups _ _ (subst (λ g. IsIn g v.groups) (other w (λ f. let l = wf.below w k o in omega arith)) (d.groups w k o)));
    free = λ k h. by_test (nat_eq k v.slots) (λ t. (y, rw t refl))
        (λ t. by_either (has_or v.free (mask_of v.slots) k h) (λ l. let (z, e) = d.free k l in (z, rw t e))
        (λ l. absurd (not_both (eq-eqb k v.slots (of_has v.slots k l)) t)));
  }
    where
      own : mask_of v.slots ≡ group (new_term v.slots y i) (suc v.slots) y
      own = same_mask _ _
          (λ k h. let e = of_has v.slots k h in has_from ((new_term v.slots y i).occurs y) (suc v.slots) k (omega arith)
          (rw (eq-eqb k v.slots e) (eq-eqb y y refl)))
          (λ k h. let (l, e) = from_has ((new_term v.slots y i).occurs y) (suc v.slots) k h in
          by_test (nat_eq k v.slots) (λ t. subst (λ z. Has (mask_of v.slots) z) (sym (eqb-true k v.slots t)) (has_of v.slots))
          (λ t. let b = wf.below y k (rw t at e) in absurd (omega arith)))

      other : (w : ℕ) → (w ≡ y → ⊥) → group i v.slots w ≡ group (new_term v.slots y i) (suc v.slots) w
      other w ne = same_mask _ _
          (λ k h. let (l, o) = from_has (i.occurs w) v.slots k h in
          has_from ((new_term v.slots y i).occurs w) (suc v.slots) k (omega arith)
          (by_test (nat_eq k v.slots) (λ t. let e = eqb-true k v.slots t in absurd (omega arith)) (λ t. rw t o)))
          (λ k h. let (l, e) = from_has ((new_term v.slots y i).occurs w) (suc v.slots) k h in
          by_test (nat_eq k v.slots) (λ t. absurd (ne (eqb-true w y (rw t at e))))
          (λ t. let o : i.occurs w k ≡ true = rw t at e in has_from (i.occurs w) v.slots k (wf.within w k o) o))
