-- A slot with a new variable is bound to a side's term.
use Rattle.std.proofs.Common.{◌≡◌, ◌⊎◌, ℕ, ◌<◌, ◌≤◌, true, false, cond, nat_eq, Some, refl, sym, ◌∙◌, subst, inr, arith}
use Rattle.std.proofs.lemmas.Bool.{eq-eqb, eqb-true}
use Rattle.plai_base.specs.Mask.{mask_of}
use Rattle.plai_share_laws.specs.Groups.{meets}
use Rattle.plai_share_laws.specs.Shares.{Side, Slot, Other, slots_of}
use Rattle.plai_share_laws.proofs.Ordered.{IsBelow}
use Rattle.plai_share_laws.proofs.Meaning.{Instance, IsInstance, group, Change, IsMoved, Touches, Stays, variable_at, IsUnifier, put_term}
use Rattle.plai_share_laws.proofs.Masks.{by_test, not_both, has_of, of_has, meets_at, meet_slot, from_has, has_from}
use Rattle.plai_share_laws.proofs.Unify.{only_variable}

-- the slot has a variable that no other slot has
abbrev pub IsOwn : Instance → ℕ → Type 0
IsOwn i k = (y : ℕ) × (i.variable k ≡ Some y) × ((r : ℕ) → i.occurs y r ≡ true → r ≡ k)

abbrev pub bound_to : ℕ → ℕ → Side → Instance → Change
bound_to n y t i = record {
  puts = λ v w. cond (nat_eq v y) (meets (slots_of t) (group i n w)) (nat_eq w v);
  image = λ v. cond (nat_eq v y) (variable_at i t) (Some v);
}

pub differ : (a b : ℕ) → (a ≡ b → ⊥) → nat_eq a b ≡ false
differ a b n = by_test (nat_eq a b) (λ t. absurd (n (eqb-true a b t))) (λ f. f)

module _ (n size number : ℕ) (i : Instance) (wf : IsInstance size number i) (k : ℕ) (later : n ≤ k)
    (t : Side) (low : IsBelow n (slots_of t)) (y : ℕ) (is : i.variable k ≡ Some y) (own : (r : ℕ) → i.occurs y r ≡ true → r ≡ k) where
  -- the side's variables
  touch_low : (w : ℕ) → Touches i (slots_of t) w → meets (slots_of t) (group i n w) ≡ true
  touch_low w h = let (l, p, o) = h in meets_at (slots_of t) (group i n w) l p (has_from (i.occurs w) n l (low l p) o)

  low_touch : (w : ℕ) → meets (slots_of t) (group i n w) ≡ true → Touches i (slots_of t) w
  low_touch w e = let (l, p, h) = meet_slot (slots_of t) (group i n w) e in let (b, o) = from_has (i.occurs w) n l h in (l, p, o)

  here : i.occurs y k ≡ true
  here = wf.itself k y is

  not_in : (w : ℕ) → Touches i (slots_of t) w → w ≡ y → ⊥
  not_in w h d = let (l, p, o) = h in let e = own l (subst (λ z. i.occurs z l ≡ true) d o) in let b = low l p in omega arith

  elsewhere : (v l : ℕ) → i.occurs v l ≡ true → (v ≡ y → ⊥) → nat_eq l k ≡ false
  elsewhere v l o ne = differ l k (λ d. ne (wf.alone k y v is (subst (λ z. i.occurs v z ≡ true) d o)))

  pub bind_moved : IsMoved i (bound_to n y t i) (put_term n k t i)
  bind_moved = record {
    into = λ v w l o p. by_test (nat_eq v y)
        (λ e. let d = eqb-true v y e in
        let same = own l (subst (λ z. i.occurs z l ≡ true) d o) in
        rw (eq-eqb l k same) (rw e at p))
        (λ e. let d = eqb-true w v (rw e at p) in
        rw (elsewhere v l o (λ q. not_both (eq-eqb v y q) e)) (subst (λ z. i.occurs z l ≡ true) (sym d) o));
    from = λ w l o. by_test (nat_eq l k)
        (λ e. (y, subst (λ z. i.occurs y z ≡ true) (sym (eqb-true l k e)) here, rw (eq-eqb y y refl) (rw e at o)))
        (λ e. let p : i.occurs w l ≡ true = rw e at o in
        (w, p, rw (differ w y (λ q. not_both (eq-eqb l k (own l (subst (λ z. i.occurs z l ≡ true) q p))) e)) (eq-eqb w w refl)));
    to_variable = λ l v u e p. by_test (nat_eq v y)
        (λ q. let d = eqb-true v y q in
        let same = own l (subst (λ z. i.occurs z l ≡ true) d (wf.itself l v e)) in
        rw (eq-eqb l k same) (rw q at p))
        (λ q. let d : Some v ≡ Some u = rw q at p in
        rw (elsewhere v l (wf.itself l v e) (λ r. not_both (eq-eqb v y r) q)) (e ∙ d));
    from_variable = λ l u e. by_test (nat_eq l k)
        (λ q. (y, subst (λ z. i.variable z ≡ Some y) (sym (eqb-true l k q)) is, rw (eq-eqb y y refl) (rw q at e)))
        (λ q. let p : i.variable l ≡ Some u = rw q at e in
        (u, p, rw (differ u y (λ r. not_both (eq-eqb l k (own l (subst (λ z. i.occurs z l ≡ true) r (wf.itself l u p)))) q)) refl));
  }

  first_is : (v : ℕ) → Touches i (mask_of k) v → v ≡ y
  first_is v h = let (l, p, o) = h in wf.alone k y v is (subst (λ z. i.occurs v z ≡ true) (of_has k l p) o)

  stays : (v : ℕ) → (v ≡ y → ⊥) → Stays (bound_to n y t i) v
  stays v ne = record {
    image = rw (differ v y ne) refl;
    itself = rw (differ v y ne) (eq-eqb v v refl);
    only = λ w p. eqb-true w v (rw (differ v y ne) at p);
  }

  pub bind_unifies : IsUnifier i (Slot k) t (bound_to n y t i)
  bind_unifies = record {
    unifies = record {
      leaves = λ v na nb. stays v (λ d. na (k, has_of k, subst (λ z. i.occurs z k ≡ true) (sym d) here));
      brings = λ v w h p. by_test (nat_eq v y) (λ e. inr (low_touch w (rw e at p)))
          (λ e. let d = eqb-true w v (rw e at p) in subst (λ z. Touches i (mask_of k) z ⊎ Touches i (slots_of t) z) (sym d) h);
      across = λ v w h p.
          let q = low_touch w (rw (eq-eqb v y (first_is v h)) at p) in (w, q, (stays w (not_in w q)).itself);
      back = λ v w h p.
          let d = (stays v (not_in v h)).only w p in
          (y, (k, has_of k, here), rw (eq-eqb y y refl) (subst (λ z. meets (slots_of t) (group i n z) ≡ true) (sym d) (touch_low v h)));
    };
    left = λ z e. record {
      to_variable = λ v h. (v, (stays v (not_in v h)).image);
      apart = λ v w u h g p q. sym ((stays v (not_in v h)).only u p) ∙ (stays w (not_in w g)).only u q;
    };
    right = λ z e. record {
      to_variable = λ v h. (z, rw (eq-eqb v y (first_is v h)) e);
      apart = λ v w u h g p q. first_is v h ∙ sym (first_is w g);
    };
  }

  pub bind_wf : IsInstance size number (put_term n k t i)
  bind_wf = record {
    below = λ v l o. by_test (nat_eq l k)
        (λ e. let (r, p, q) = low_touch v (rw e at o) in wf.below v r q) (λ e. wf.below v l (rw e at o));
    within = λ v l o. by_test (nat_eq l k)
        (λ e. subst (λ z. z < size) (sym (eqb-true l k e)) (wf.within y k here)) (λ e. wf.within v l (rw e at o));
    alone = λ l v w e o. by_test (nat_eq l k)
        (λ q. only_variable size number i wf t v (rw q at e) w (low_touch w (rw q at o)))
        (λ q. wf.alone l v w (rw q at e) (rw q at o));
    itself = λ l v e. by_test (nat_eq l k)
        (λ q. rw q (touch_low v (variable_touches t v (rw q at e))))
        (λ q. rw q (wf.itself l v (rw q at e)));
  }
    where
      variable_touches : (t : Side) (v : ℕ) → variable_at i t ≡ Some v → Touches i (slots_of t) v
      variable_touches (Slot l) v e = (l, has_of l, wf.itself l v e)
      variable_touches (Other set) v e = cc
