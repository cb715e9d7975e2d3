-- describe, entails and excludes, and the rank.
use Rattle.std.proofs.Common.{◌≡◌, ◌≢◌, ℕ, zero, suc, ◌+◌, ◌-◌, ◌^◌, ◌<◌, ◌≤◌, Bool, true, not, ◌&&◌, nat_eq, List, [], ◌∷◌, Option, Some, None, refl, sym}
use Rattle.std.proofs.Common.{subst, inl, inr, arith}
use Rattle.std.specs.List.{range_with_len}
use Rattle.std.proofs.lemmas.Bool.{eq-eqb, eqb-true}
use Rattle.plai_base.specs.Mask.{mask_of}
use Rattle.plai_terms.specs.declared.prop.Prop.{Prop}
use Rattle.plai_terms.specs.declared.prop.Prop.TheVariants as property
use Rattle.plai_share_laws.proofs.Members.{IsIn}
use Rattle.plai_share_laws.specs.Groups.{Has, meets, misses}
use Rattle.plai_share_laws.specs.Shares.{Shares, any_meets}
use Rattle.plai_share_laws.proofs.Ordered.{Leq}
use Rattle.plai_share_laws.proofs.Meaning.{Holds, AreIntegers, Instance, IsInstance, group, Describes}
use Rattle.plai_share_laws.specs.Properties.{both, anything, with_ground, apart, with_property, with_all, describe, any_both, entails, excludes}
use Rattle.plai_share_laws.proofs.Masks.{by_test, not_both, has_or, has_of, of_has, has_zero, from_has}
use Rattle.plai_share_laws.proofs.Lists.{by_either, filter_in}
use Rattle.plai_share_laws.proofs.Unify.{group_has, touch_meets, meets_touch}
use Rattle.plai_share_laws.proofs.Local.{any_at}
use Rattle.plai_share_laws.proofs.Parts.{and_parts}
use Rattle.plai_share_laws.proofs.Values.{below_pow}

-- what a value describes, each value above it describes
pub described_above : (v w : Shares) (i : Instance) → Leq v w → Describes v i → Describes w i
described_above v w i le d = record {
  groups = λ x k e. le.groups _ (subst (λ z. IsIn (group i z x) v.groups) le.slots (d.groups x k e));
  free = λ k h. d.free k (le.free k h);
}

run_in : (start len x : ℕ) → start ≤ x → x < start + len → IsIn x (range_with_len start len)
run_in start zero x a b = absurd (omega arith)
run_in start (suc len) x a b = by_test (nat_eq start x) (λ t. inl (eqb-true start x t))
    (λ f. let d : start ≢ x = λ e. not_both (eq-eqb start x e) f in inr (run_in (start + 1) len x (omega arith) (omega arith)))

module _ (n number : ℕ) (i : Instance) (wf : IsInstance n number i) where
  pub anything_describes : Describes (anything n) i
  anything_describes = record {
    groups = λ v k e.
        let g = group i n v in
        let h = group_has n number i wf v k e in
        let ne : g ≢ 0 = λ z. has_zero k (subst (λ x. Has x k) z h) in
        let b : g < 2 ^ n = below_pow n g (λ l p. let (a, o) = from_has (i.occurs v) n l p in a) in
        run_in 1 (2 ^ n - 1) g (omega arith) (omega arith);
    free = λ k h. absurd (has_zero k h);
  }

  module _ (v : Shares) (size : v.slots ≡ n) (d : Describes v i) where
    known : (x k : ℕ) → i.occurs x k ≡ true → IsIn (group i n x) v.groups
    known x k e = subst (λ z. IsIn (group i z x) v.groups) size (d.groups x k e)

    touches : (x k : ℕ) → i.occurs x k ≡ true → meets (mask_of k) (group i n x) ≡ true
    touches x k e = touch_meets n number i wf (mask_of k) x (k, has_of k, e)

    at_slot : (x k : ℕ) → meets (mask_of k) (group i n x) ≡ true → i.occurs x k ≡ true
    at_slot x k m = let (l, h, o) = meets_touch n number i wf (mask_of k) x m in subst (λ z. i.occurs x z ≡ true) (of_has k l h) o

    any_of : (x k : ℕ) → i.occurs x k ≡ true → any_meets (mask_of k) v.groups ≡ true
    any_of x k e = any_at (mask_of k) v.groups (group i n x) (known x k e) (touches x k e)

    ground_describes : (k : ℕ) → ((x : ℕ) → i.occurs x k ≡ true → ⊥) → Describes (with_ground k v) i
    ground_describes k none = record {
      groups = λ x l e. filter_in (misses (mask_of k)) v.groups _ (d.groups x l e)
          (subst (λ z. misses (mask_of k) (group i z x) ≡ true) (sym size)
          (by_test (meets (mask_of k) (group i n x)) (λ t. absurd (none x (at_slot x k t))) (λ t. rw t refl)));
      free = d.free;
    }

    pub property_describes : (integer : ℕ → Type 0) → AreIntegers integer i → (p : Prop) → Holds integer i p → Describes (with_property p v) i
    property_describes integer whole (property.Ground k) h = ground_describes (k - 1) h
    property_describes integer whole (property.Var k) h = record {
      groups = d.groups;
      free = λ l o. by_either (has_or v.free (mask_of (k - 1)) l o) (d.free l)
          (λ q. let (y, e) = h in (y, subst (λ z. i.variable z ≡ Some y) (sym (of_has (k - 1) l q)) e));
    }
    property_describes integer whole (property.Nonvar k) h = d
    property_describes integer whole (property.Int k) h = ground_describes (k - 1) (λ x. whole.closed (k - 1) x h)
    property_describes integer whole (property.Indep k l) h = record {
      groups = λ x r e. filter_in (apart (k - 1) (l - 1)) v.groups _ (d.groups x r e)
          (subst (λ z. apart (k - 1) (l - 1) (group i z x) ≡ true) (sym size)
          (by_test (meets (mask_of (k - 1)) (group i n x) && meets (mask_of (l - 1)) (group i n x))
          (λ t. let (a, b) = and_parts _ _ t in absurd (h x (at_slot x (k - 1) a) (at_slot x (l - 1) b)))
          (λ t. rw t refl)));
      free = d.free;
    }

    no_variable : (k : ℕ) → ((x : ℕ) → i.variable k ≡ Some x → ⊥) → i.variable k ≡ None
    no_variable k none = split (i.variable k) refl
      where
        split : (o : Option ℕ) → i.variable k ≡ o → i.variable k ≡ None
        split None e = e
        split (Some x) e = absurd (none x e)

    any_two : (k l : ℕ) (gs : List ℕ) (g : ℕ) → IsIn g gs → meets (mask_of k) g ≡ true → meets (mask_of l) g ≡ true → any_both k l gs ≡ true
    any_two k l [] g m a b = absurd m
    any_two k l (h ∷ gs) g (inl e) a b =
        let p : meets (mask_of k) h ≡ true = subst (λ z. meets (mask_of k) z ≡ true) (sym e) a in
        let q : meets (mask_of l) h ≡ true = subst (λ z. meets (mask_of l) z ≡ true) (sym e) b in
        rw (p, q) refl
    any_two k l (h ∷ gs) g (inr m) a b = by_test (both k l h) (λ t. rw t refl) (λ t. rw t (any_two k l gs g m a b))

    not_not : {b : Bool} → not b ≡ true → b ≡ true → ⊥
    not_not {b} p q = let e : not true ≡ true = rw q at p in cc

    pub entailed_holds : (integer : ℕ → Type 0) (p : Prop) → entails v p ≡ true → Holds integer i p
    entailed_holds integer (property.Ground k) e = λ x o. not_not e (any_of x (k - 1) o)
    entailed_holds integer (property.Var k) e = d.free (k - 1) e
    entailed_holds integer (property.Nonvar k) e = no_variable (k - 1) (λ x q. not_not e (any_of x (k - 1) (wf.itself (k - 1) x q)))
    entailed_holds integer (property.Int k) e = cc
    entailed_holds integer (property.Indep k l) e = λ x o q.
        not_not e (any_two (k - 1) (l - 1) v.groups (group i n x) (known x (k - 1) o) (touches x (k - 1) o) (touches x (l - 1) q))

    pub excluded_fails : (integer : ℕ → Type 0) → AreIntegers integer i → (p : Prop) → excludes v p ≡ true → Holds integer i p → ⊥
    excluded_fails integer whole (property.Ground k) e h = let (x, q) = d.free (k - 1) e in h x (wf.itself (k - 1) x q)
    excluded_fails integer whole (property.Var k) e h = let (x, q) = h in not_not e (any_of x (k - 1) (wf.itself (k - 1) x q))
    excluded_fails integer whole (property.Nonvar k) e h = let (x, q) = d.free (k - 1) e in cc
    excluded_fails integer whole (property.Int k) e h = let (x, q) = d.free (k - 1) e in whole.no_variable (k - 1) x h q
    excluded_fails integer whole (property.Indep k l) e h = cc

  all_describe : (integer : ℕ → Type 0) → AreIntegers integer i → (pre : List Prop) → ((p : Prop) → IsIn p pre → Holds integer i p)
      → (v : Shares) → v.slots ≡ n → Describes v i → Describes (with_all pre v) i
  all_describe integer whole [] h v size d = d
  all_describe integer whole (p ∷ ps) h v size d = all_describe integer whole ps (λ q m. h q (inr m)) (with_property p v) (sized p)
      (property_describes v size d integer whole p (h p (inl refl)))
    where
      sized : (p : Prop) → (with_property p v).slots ≡ n
      sized (property.Ground k) = size
      sized (property.Var k) = size
      sized (property.Nonvar k) = size
      sized (property.Int k) = size
      sized (property.Indep k l) = size

  -- describe describes each tuple that has the properties
  pub describe_describes : (integer : ℕ → Type 0) → AreIntegers integer i → (pre : List Prop) → ((p : Prop) → IsIn p pre → Holds integer i p)
      → Describes (describe n pre) i
  describe_describes integer whole pre h = all_describe integer whole pre h (anything n) refl anything_describes
