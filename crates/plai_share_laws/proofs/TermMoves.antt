-- Terms at slots are an instance, a substitution moves it, and a unifier is one for the domain.
use Rattle.std.proofs.Common.{◌≡◌, ◌⊎◌, ℕ, ◌+◌, ◌<◌, ℤ, true, false, nat_lt, List, [], ◌∷◌, map, Option, Some, None, refl, sym, ap, subst, ◌∙◌, inl, inr}
use Rattle.std.proofs.Common.{rules, arith}
use Rattle.std.specs.List.{list_any, AllByRecursion}
use Rattle.std.proofs.lemmas.Bool.{eq-eqb, eqb-true}
use Rattle.std.proofs.lemmas.Bool.Decides.{nat_tests}
use Rattle.plai_terms.specs.Term.{occurs}
use Rattle.plai_terms.proofs.Terms.{induction, occurs-Compound}
use Rattle.plai_terms.specs.declared.term.Term.{Term, Var, Int, Atom, Compound, the_lemmas}
use Rattle.plai_base.specs.Mask.{mask_of}
use Rattle.plai_share_laws.specs.Groups.{Has}
use Rattle.plai_share_laws.specs.Shares.{Slot, slots_of}
use Rattle.plai_share_laws.proofs.Ordered.{IsBelow}
use Rattle.plai_share_laws.proofs.Meaning.{IsInstance, IsMoved, Touches, Stays, Renames, IsUnifier, variable_at}
use Rattle.plai_share_laws.proofs.Masks.{by_test, has_of, of_has, has_zero, has_or, or_left, or_right}
use Rattle.plai_share_laws.proofs.Parts.{and_parts, and_both}
use Rattle.plai_share_laws.proofs.Lists.{by_either}
use Rattle.plai_terms.specs.Substitution.{under}
use Rattle.plai_terms.proofs.Under.{occurs-Var, source, reaches, or_cases, or_first, or_second}
use Rattle.plai_share_laws.specs.Sides.{variable_of, unions, term_slots, side_by, side_of}
use Rattle.plai_share_laws.proofs.Placed.{placed, change_of, IsRenaming, IsSolution}
use Rattle.plai_share_laws.proofs.TermVariables.{variable_of-Var, from_variable, to_variable, is_that, alone, itself}

lower : (k n : ℕ) → nat_lt k n ≡ true → k < n
lower k n t = grind (arith, nat_tests)

lower_test : (k n : ℕ) → k < n → nat_lt k n ≡ true
lower_test k n l = grind (arith, nat_tests)

module _ (n : ℕ) (terms : ℕ → Term) where
  at : (v k : ℕ) → (placed n terms).occurs v k ≡ true → (k < n) × (occurs v (terms k) ≡ true)
  at v k e = let (t, o) = and_parts (nat_lt k n) (occurs v (terms k)) e in (lower k n t, o)

  here : (v k : ℕ) → k < n → occurs v (terms k) ≡ true → (placed n terms).occurs v k ≡ true
  here v k l o = and_both (nat_lt k n) (occurs v (terms k)) (lower_test k n l) o

  variable_here : (k v : ℕ) → (placed n terms).variable k ≡ Some v → (k < n) × (variable_of (terms k) ≡ Some v)
  variable_here k v e = by_test (nat_lt k n) (λ t. (lower k n t, rw t at e)) (λ t. let f = rw t at e in cc)

  here_variable : (k v : ℕ) → k < n → variable_of (terms k) ≡ Some v → (placed n terms).variable k ≡ Some v
  here_variable k v l e = rw (lower_test k n l) e

  pub terms_wf : (number : ℕ) → ((v k : ℕ) → k < n → occurs v (terms k) ≡ true → v < number) → IsInstance n number (placed n terms)
  terms_wf number low = record {
    below = λ v k e. let (l, o) = at v k e in low v k l o;
    within = λ v k e. (at v k e).0;
    alone = λ k v w e o. alone (terms k) v w (variable_here k v e).1 (at w k o).1;
    itself = λ k v e. let (l, f) = variable_here k v e in here v k l (itself (terms k) v f);
  }

-- a substitution moves the instance
pub terms_moved : (n : ℕ) (terms : ℕ → Term) (s : ℕ → Term) → IsMoved (placed n terms) (change_of s) (placed n (λ k. under s (terms k)))
terms_moved n terms s = record {
  into = λ v w k o p. let (l, e) = at n terms v k o in here n (λ k. under s (terms k)) w k l (reaches s v w p (terms k) e);
  from = λ w k o.
      let (l, e) = at n (λ k. under s (terms k)) w k o in
      let (v, p, q) = source s w (terms k) e in (v, here n terms v k l p, q);
  to_variable = λ k v u e p. let (l, f) = variable_here n terms k v e in
      here_variable n (λ k. under s (terms k)) k u l (to_variable s (terms k) v u f p);
  from_variable = λ k u e.
      let (l, f) = variable_here n (λ k. under s (terms k)) k u e in
      let (v, p, q) = from_variable s (terms k) u f in (v, here_variable n terms k v l p, q);
}

-- the slots of a term's variables
module _ (base : ℕ) where
  pub slots-Var : (v : ℕ) → term_slots base (Var v) ≡ mask_of (base + v)
  slots-Var v = search (rules, the_lemmas)

  slots-Int : (n : ℤ) → term_slots base (Int n) ≡ 0
  slots-Int n = search (rules, the_lemmas)

  slots-Atom : (a : List ℕ) → term_slots base (Atom a) ≡ 0
  slots-Atom a = search (rules, the_lemmas)

  pub slots-Compound : (name : List ℕ) (args : List Term) → term_slots base (Compound name args) ≡ unions (map (term_slots base) args)
  slots-Compound name args = search (rules, the_lemmas)

  abbrev AtSlots : Term → Type 0
  AtSlots t = (k : ℕ) → Has (term_slots base t) k → (v : ℕ) × (occurs v t ≡ true) × (k ≡ base + v)

  abbrev HasSlots : Term → Type 0
  HasSlots t = (v : ℕ) → occurs v t ≡ true → Has (term_slots base t) (base + v)

  all_at : (args : List Term) → AllByRecursion AtSlots args → (k : ℕ) → Has (unions (map (term_slots base) args)) k
      → (v : ℕ) × (list_any (λ b. b) (map (occurs v) args) ≡ true) × (k ≡ base + v)
  all_at [] h k o = absurd (has_zero k o)
  all_at (a ∷ args) h k o =
      split (has_or (term_slots base a) (unions (map (term_slots base) args)) k o) (h.0 k) (all_at args h.1 k)
    where
      split : Has (term_slots base a) k ⊎ Has (unions (map (term_slots base) args)) k
          → (Has (term_slots base a) k → (v : ℕ) × (occurs v a ≡ true) × (k ≡ base + v))
          → (Has (unions (map (term_slots base) args)) k → (v : ℕ) × (list_any (λ b. b) (map (occurs v) args) ≡ true) × (k ≡ base + v))
          → (v : ℕ) × (list_any (λ b. b) (map (occurs v) (a ∷ args)) ≡ true) × (k ≡ base + v)
      split (inl p) f g = let (v, q, e) = f p in (v, or_first (occurs v a) _ q, e)
      split (inr p) f g = let (v, q, e) = g p in (v, or_second (occurs v a) _ q, e)

  at_slots : (t : Term) → AtSlots t
  at_slots = induction AtSlots
      (λ u k h. (u, occurs-Var u u ∙ eq-eqb u u refl, of_has (base + u) k (subst (λ z. Has z k) (slots-Var u) h)))
      (λ n k h. absurd (has_zero k (subst (λ z. Has z k) (slots-Int n) h)))
      (λ a k h. absurd (has_zero k (subst (λ z. Has z k) (slots-Atom a) h)))
      (λ name args h k o. let (v, p, e) = all_at args h k (subst (λ z. Has z k) (slots-Compound name args) o) in
      (v, occurs-Compound v name args ∙ p, e))

  all_has : (args : List Term) → AllByRecursion HasSlots args → (v : ℕ) → list_any (λ b. b) (map (occurs v) args) ≡ true
      → Has (unions (map (term_slots base) args)) (base + v)
  all_has [] h v e = cc
  all_has (a ∷ args) h v e = by_either (or_cases (occurs v a) (list_any (λ b. b) (map (occurs v) args)) e)
      (λ o. or_left (term_slots base a) _ (base + v) (h.0 v o))
      (λ o. or_right (term_slots base a) _ (base + v) (all_has args h.1 v o))

  has_slots : (t : Term) → HasSlots t
  has_slots = induction HasSlots
      (λ u v e. let d = eqb-true v u (sym (occurs-Var v u) ∙ e) in
      subst (λ z. Has z (base + v)) (sym (slots-Var u)) (subst (λ z. Has (mask_of (base + z)) (base + v)) d (has_of (base + v))))
      (λ n v e. let z : occurs v (Int n) ≡ false = search (rules, the_lemmas) in cc)
      (λ a v e. let z : occurs v (Atom a) ≡ false = search (rules, the_lemmas) in cc)
      (λ name args h v e. subst (λ z. Has z (base + v)) (sym (slots-Compound name args)) (all_has args h v (sym (occurs-Compound v name args) ∙ e)))

  -- the side has the term's slots
  side_slots : (t : Term) → slots_of (side_of base t) ≡ term_slots base t
  side_slots t = split (variable_of t) refl
    where
      split : (o : Option ℕ) → variable_of t ≡ o → slots_of (side_by base (variable_of t) (term_slots base t)) ≡ term_slots base t
      split None e = rw e refl
      split (Some v) e = rw e (sym (ap (term_slots base) (is_that t v e) ∙ slots-Var v))

  module _ (n : ℕ) (terms : ℕ → Term) (t : Term) (low : (v : ℕ) → occurs v t ≡ true → base + v < n) where
    abbrev filled : Term
    filled = under (λ v. terms (base + v)) t

    -- the side's variables are those of the term that it stands for
    pub touch_occurs : (w : ℕ) → Touches (placed n terms) (slots_of (side_of base t)) w → occurs w filled ≡ true
    touch_occurs w h =
        let (k, p, o) = h in
        let (v, q, e) = at_slots t k (subst (λ z. Has z k) (side_slots t) p) in
        let (l, r) = at n terms w k o in
        reaches (λ v. terms (base + v)) v w (subst (λ z. occurs w (terms z) ≡ true) e r) t q

    pub occurs_touch : (w : ℕ) → occurs w filled ≡ true → Touches (placed n terms) (slots_of (side_of base t)) w
    occurs_touch w o =
        let (v, p, q) = source (λ v. terms (base + v)) w t o in
        (base + v, subst (λ z. Has z (base + v)) (sym (side_slots t)) (has_slots t v p), here n terms w (base + v) (low v p) q)

    pub side_variable_is : (y : ℕ) → variable_at (placed n terms) (side_of base t) ≡ Some y → variable_of filled ≡ Some y
    side_variable_is y = split (variable_of t) refl
      where
        split : (o : Option ℕ) → variable_of t ≡ o → variable_at (placed n terms) (side_by base (variable_of t) (term_slots base t)) ≡ Some y
            → variable_of filled ≡ Some y
        split None e h = let g = rw e at h in cc
        split (Some v) e h =
            let (l, f) = variable_here n terms (base + v) y (rw e at h) in
            to_variable (λ v. terms (base + v)) t v y e f

    pub variable_side_is : (y : ℕ) → variable_of filled ≡ Some y → variable_at (placed n terms) (side_of base t) ≡ Some y
    variable_side_is y e =
        let (v, f, g) = from_variable (λ v. terms (base + v)) t y e in
        let h : (placed n terms).variable (base + v) ≡ Some y = here_variable n terms (base + v) y (low v (itself t v f)) g in
        rw f h

    pub side_below : IsBelow n (slots_of (side_of base t))
    side_below k h =
        let (v, o, e) = at_slots t k (subst (λ z. Has z k) (side_slots t) h) in
        subst (λ z. z < n) (sym e) (low v o)

-- a substitution that makes the slot's term and the side's equal
module _ (base n x : ℕ) (terms : ℕ → Term) (t : Term) (inside : x < n) (low : (v : ℕ) → occurs v t ≡ true → base + v < n)
    (s : ℕ → Term) (u : IsSolution s (terms x) (under (λ v. terms (base + v)) t)) where
  slot_occurs : (w : ℕ) → Touches (placed n terms) (mask_of x) w → occurs w (terms x) ≡ true
  slot_occurs w h = let (k, p, o) = h in let (l, r) = at n terms w k o in subst (λ z. occurs w (terms z) ≡ true) (of_has x k p) r

  occurs_slot : (w : ℕ) → occurs w (terms x) ≡ true → Touches (placed n terms) (mask_of x) w
  occurs_slot w o = (x, has_of x, here n terms w x inside o)

  stays : (v : ℕ) → s v ≡ Var v → Stays (change_of s) v
  stays v e = record {
    image = ap variable_of e ∙ variable_of-Var v;
    itself = ap (occurs v) e ∙ occurs-Var v v ∙ eq-eqb v v refl;
    only = λ w p. eqb-true w v (sym (occurs-Var w v) ∙ sym (ap (occurs w) e) ∙ p);
  }

  renames : (set : ℕ) (b : Term) → ((w : ℕ) → Touches (placed n terms) set w → occurs w b ≡ true) → IsRenaming s b → Renames (placed n terms) set (change_of s)
  renames set b f r = record {
    to_variable = λ v h. let (y, e) = r.to_variable v (f v h) in (y, ap variable_of e ∙ variable_of-Var y);
    apart = λ v w z g h p q.
        let (y, e) = r.to_variable v (f v g) in
        let (y', e') = r.to_variable w (f w h) in
        let d : z ≡ y = eqb-true z y (sym (occurs-Var z y) ∙ sym (ap (occurs z) e) ∙ p) in
        let d' : z ≡ y' = eqb-true z y' (sym (occurs-Var z y') ∙ sym (ap (occurs z) e') ∙ q) in
        r.apart v w z (f v g) (f w h) (e ∙ ap Var (sym d)) (e' ∙ ap Var (sym d'));
  }

  -- what the domain needs of a unifier
  pub unifier_of_terms : IsUnifier (placed n terms) (Slot x) (side_of base t) (change_of s)
  unifier_of_terms = record {
    unifies = record {
      leaves = λ v na nb. stays v (u.leaves v (λ o. na (occurs_slot v o)) (λ o. nb (occurs_touch base n terms t low v o)));
      brings = λ v w h p. by_either (u.brings v w (by_either h (λ g. inl (slot_occurs v g)) (λ g. inr (touch_occurs base n terms t low v g))) p)
          (λ o. inl (occurs_slot w o)) (λ o. inr (occurs_touch base n terms t low w o));
      across = λ v w h p.
          let o : occurs w (under s (terms x)) ≡ true = reaches s v w p (terms x) (slot_occurs v h) in
          let (z, q, r) = source s w (under (λ v. terms (base + v)) t) (sym (ap (occurs w) u.equal) ∙ o) in
          (z, occurs_touch base n terms t low z q, r);
      back = λ v w h p.
          let o : occurs w (under s (under (λ v. terms (base + v)) t)) ≡ true =
          reaches s v w p (under (λ v. terms (base + v)) t) (touch_occurs base n terms t low v h) in
          let (z, q, r) = source s w (terms x) (ap (occurs w) u.equal ∙ o) in
          (z, occurs_slot z q, r);
    };
    left = λ y e. renames (slots_of (side_of base t)) _ (touch_occurs base n terms t low)
        (u.left y (is_that (terms x) y (variable_here n terms x y e).1));
    right = λ y e. renames (mask_of x) (terms x) slot_occurs (u.right y (is_that _ y (side_variable_is base n terms t low y e)));
  }
