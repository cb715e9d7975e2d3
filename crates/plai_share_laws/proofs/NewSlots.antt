-- Terms that are put at slots of their own: what is described, and what stands at each slot afterwards.
use Rattle.std.proofs.Common.{◌≡◌, ◌≢◌, ℕ, zero, suc, ◌+◌, ◌<◌, ◌≤◌, Bool, true, false, nat_eq, List, [], ◌∷◌, length, Some, None, refl, sym, ◌∙◌, ap, subst}
use Rattle.std.proofs.Common.{inl, inr, arith}
use Rattle.std.proofs.lemmas.Bool.{eq-eqb, eqb-true}
use Rattle.plai_share_laws.proofs.Members.{IsIn, mask_from}
use Rattle.plai_share_laws.specs.Groups.{meets}
use Rattle.plai_share_laws.specs.Shares.{Shares, Side, Slot, Other, slots_of, unify, widen, widen_by}
use Rattle.plai_share_laws.proofs.Ordered.{IsBelow}
use Rattle.plai_share_laws.proofs.Meaning.{Instance, IsInstance, group, Describes, variable_at, put_term, new_term, side_occurs, side_variable, AreBelow}
use Rattle.plai_share_laws.proofs.Meaning.{new_terms}
use Rattle.plai_share_laws.specs.Calls.{unify_each}
use Rattle.plai_share_laws.proofs.Masks.{by_test, not_both, same_mask, has_of, meet_slot, from_has, has_from}
use Rattle.plai_share_laws.proofs.Unify.{unify_describes}
use Rattle.plai_share_laws.proofs.Parts.{new_wf, new_describes}
use Rattle.plai_share_laws.proofs.Bind.{IsOwn, differ, bound_to, bind_moved, bind_unifies, bind_wf}

-- two instances with the same variables at each slot
pub record IsLike (i j : Instance) : Type 0 where
  pub occurs : (w l : ℕ) → i.occurs w l ≡ j.occurs w l
  pub variable : (l y : ℕ) → i.variable l ≡ Some y → j.variable l ≡ Some y
  pub variable_back : (l y : ℕ) → j.variable l ≡ Some y → i.variable l ≡ Some y

pub same_from : (p q : ℕ → Bool) (n : ℕ) → ((l : ℕ) → l < n → p l ≡ q l) → mask_from p n ≡ mask_from q n
same_from p q n e = same_mask _ _
    (λ k h. let (l, o) = from_has p n k h in has_from q n k l (sym (e k l) ∙ o))
    (λ k h. let (l, o) = from_has q n k h in has_from p n k l (e k l ∙ o))

pub like_describes : (v : Shares) (i j : Instance) → IsLike i j → Describes v i → Describes v j
like_describes v i j s d = record {
  groups = λ w k e. subst (λ g. IsIn g v.groups) (same_from (i.occurs w) (j.occurs w) v.slots (λ l b. s.occurs w l)) (d.groups w k (s.occurs w k ∙ e));
  free = λ k h. let (y, e) = d.free k h in (y, s.variable k y e);
}

pub like_wf : (n number : ℕ) (i j : Instance) → IsLike i j → IsInstance n number i → IsInstance n number j
like_wf n number i j s wf = record {
  below = λ v k e. wf.below v k (s.occurs v k ∙ e);
  within = λ v k e. wf.within v k (s.occurs v k ∙ e);
  alone = λ k v w e o. wf.alone k v w (s.variable_back k v e) (s.occurs w k ∙ o);
  itself = λ k v e. sym (s.occurs v k) ∙ wf.itself k v (s.variable_back k v e);
}

-- the sides put at the slots from k on
abbrev pub put_terms : ℕ → ℕ → List Side → Instance → Instance
put_terms n k [] i = i
put_terms n k (t ∷ ts) i = put_terms n (suc k) ts (put_term n k t i)

-- slots of their own variables
put_own : (n k : ℕ) (t : Side) (i : Instance) (l : ℕ) → n ≤ l → (l ≡ k → ⊥) → IsOwn i l → IsOwn (put_term n k t i) l
put_own n k t i l later ne o =
    let (y, is, own) = o in (
      y,
      rw (differ l k ne) is,
      λ r e. by_test (nat_eq r k)
          (λ q. let (x, p, h) = meet_low (rw q at e) in absurd (low x h (own x p)))
          (λ q. own r (rw q at e)),
    )
  where
    low : (x : ℕ) → x < n → x ≡ l → ⊥
    low x h d = omega arith

    meet_low : {y : ℕ} → meets (slots_of t) (group i n y) ≡ true → (x : ℕ) × (i.occurs y x ≡ true) × (x < n)
    meet_low {y} e =
        let (x, p, h) = meet_slot (slots_of t) (group i n y) e in let (b, o) = from_has (i.occurs y) n x h in (x, o, b)

-- unify with each side in turn
pub each_describes : (n number : ℕ) (ts : List Side) (k : ℕ) (v : Shares) (i : Instance) → n ≤ k → AreBelow n ts
    → IsInstance v.slots number i → Describes v i → ((l : ℕ) → k ≤ l → l < k + length ts → IsOwn i l)
    → Describes (unify_each k ts v) (put_terms n k ts i) × IsInstance (unify_each k ts v).slots number (put_terms n k ts i)
each_describes n number [] k v i later low wf d own = (d, wf)
each_describes n number (t ∷ ts) k v i later low wf d own =
    let (y, is, one) = own k (omega arith) (omega arith) in
    let l = low t (inl refl) in
    each_describes n number ts (suc k) (unify (Slot k) t v) (put_term n k t i) (omega arith) (λ x m. low x (inr m))
    (bind_wf n v.slots number i wf k later t l y is one)
    (unify_describes number v i (put_term n k t i) (bound_to n y t i) (Slot k) t wf d
    (bind_moved n v.slots number i wf k later t l y is one) (bind_unifies n v.slots number i wf k later t l y is one))
    (λ x a b. put_own n k t i x (omega arith) (λ e. omega arith) (own x (omega arith) (omega arith)))

plain : ℕ → Shares
plain n = record { slots = n; groups = []; free = 0 }

next_wf : (n y : ℕ) (i : Instance) → IsInstance n y i → IsInstance (suc n) (suc y) (new_term n y i)
unfolding plain
next_wf n y i wf = new_wf y y (plain n) i (omega arith) wf

own_new : (n y : ℕ) (i : Instance) → IsInstance n y i → IsOwn (new_term n y i) n
own_new n y i wf = (
  y,
  rw (eq-eqb n n refl) refl,
  λ r e. by_test (nat_eq r n) (λ q. eqb-true r n q)
      (λ q. let l = wf.below y r (rw q at e) in absurd (omega arith)),
)

new_own : (n y : ℕ) (i : Instance) → IsInstance n y i → (l : ℕ) → l < n → IsOwn i l → IsOwn (new_term n y i) l
new_own n y i wf l b o =
    let (z, is, own) = o in (
      z,
      rw (differ l n (λ e. omega arith)) is,
      λ r e. by_test (nat_eq r n)
          (λ q. let d = eqb-true z y (rw q at e) in let c = wf.below z l (wf.itself l z is) in absurd (omega arith))
          (λ q. own r (rw q at e)),
    )

news_keep : (m n y : ℕ) (i : Instance) → IsInstance n y i → (l : ℕ) → l < n → IsOwn i l → IsOwn (new_terms n y m i) l
news_keep zero n y i wf l b o = o
news_keep (suc m) n y i wf l b o = news_keep m (suc n) (suc y) (new_term n y i) (next_wf n y i wf) l (omega arith) (new_own n y i wf l b o)

pub news_own : (m n y : ℕ) (i : Instance) → IsInstance n y i → (l : ℕ) → n ≤ l → l < n + m → IsOwn (new_terms n y m i) l
news_own zero n y i wf l a b = absurd (omega arith)
news_own (suc m) n y i wf l a b = by_test (nat_eq l n)
    (λ e. subst (λ x. IsOwn (new_terms (suc n) (suc y) m (new_term n y i)) x) (sym (eqb-true l n e))
    (news_keep m (suc n) (suc y) (new_term n y i) (next_wf n y i wf) n (omega arith) (own_new n y i wf)))
    (λ e. let d : l ≢ n = λ q. not_both (eq-eqb l n q) e in
    news_own m (suc n) (suc y) (new_term n y i) (next_wf n y i wf) l (omega arith) (omega arith))

pub news_describe : (m y : ℕ) (v : Shares) (i : Instance) → IsInstance v.slots y i → Describes v i
    → Describes (widen_by m v) (new_terms v.slots y m i) × IsInstance (widen_by m v).slots (y + m) (new_terms v.slots y m i)
news_describe zero y v i wf d = (d, subst (λ z. IsInstance v.slots z i) (let e : y ≡ y + 0 = omega arith in e) wf)
news_describe (suc m) y v i wf d =
    let (e, f) = news_describe m (suc y) (widen v) (new_term v.slots y i) (new_wf y y v i (omega arith) wf) (new_describes y y v i (omega arith) wf d) in (
      e,
      subst (λ z. IsInstance (widen_by m (widen v)).slots z (new_terms (suc v.slots) (suc y) m (new_term v.slots y i)))
          (let q : suc y + m ≡ y + suc m = omega arith in q) f,
    )

-- what stands at each slot afterwards
pub puts_other : (n : ℕ) (ts : List Side) (k : ℕ) (i : Instance) (l : ℕ) → l < k
    → ((w : ℕ) → (put_terms n k ts i).occurs w l ≡ i.occurs w l) × ((put_terms n k ts i).variable l ≡ i.variable l)
puts_other n [] k i l b = (λ w. refl, refl)
puts_other n (t ∷ ts) k i l b =
    let (f, g) = puts_other n ts (suc k) (put_term n k t i) l (omega arith) in
    let ne : nat_eq l k ≡ false = differ l k (λ e. omega arith) in
    (λ w. f w ∙ rw ne refl, g ∙ rw ne refl)

pub news_other : (m n y : ℕ) (i : Instance) (l : ℕ) → l < n
    → ((w : ℕ) → (new_terms n y m i).occurs w l ≡ i.occurs w l) × ((new_terms n y m i).variable l ≡ i.variable l)
news_other zero n y i l b = (λ w. refl, refl)
news_other (suc m) n y i l b =
    let (f, g) = news_other m (suc n) (suc y) (new_term n y i) l (omega arith) in
    let ne : nat_eq l n ≡ false = differ l n (λ e. omega arith) in
    (λ w. f w ∙ rw ne refl, g ∙ rw ne refl)

-- the first n slots of both hold the same
pub record AreSame (n : ℕ) (i j : Instance) : Type 0 where
  pub occurs : (w l : ℕ) → l < n → i.occurs w l ≡ j.occurs w l
  pub variable : (l : ℕ) → l < n → i.variable l ≡ j.variable l

pub side_occurs_same : (n : ℕ) (i j : Instance) → AreSame n i j → (ts : List Side) (w r : ℕ) → side_occurs n ts i w r ≡ side_occurs n ts j w r
side_occurs_same n i j s [] w r = refl
side_occurs_same n i j s (t ∷ ts) w zero = ap (meets (slots_of t)) (same_from (i.occurs w) (j.occurs w) n (λ l b. s.occurs w l b))
side_occurs_same n i j s (t ∷ ts) w (suc r) = side_occurs_same n i j s ts w r

variable_same : (n : ℕ) (i j : Instance) → AreSame n i j → (t : Side) → IsBelow n (slots_of t) → variable_at i t ≡ variable_at j t
variable_same n i j s (Slot k) low = s.variable k (low k (has_of k))
variable_same n i j s (Other set) low = refl

pub side_variable_same : (n : ℕ) (i j : Instance) → AreSame n i j → (ts : List Side) → AreBelow n ts → (r : ℕ) → side_variable ts i r ≡ side_variable ts j r
side_variable_same n i j s [] low r = refl
side_variable_same n i j s (t ∷ ts) low zero = variable_same n i j s t (low t (inl refl))
side_variable_same n i j s (t ∷ ts) low (suc r) = side_variable_same n i j s ts (λ x m. low x (inr m)) r

same_put : (n k : ℕ) (t : Side) (i : Instance) → n ≤ k → AreSame n (put_term n k t i) i
same_put n k t i later = record {
  occurs = λ w l b. rw (differ l k (λ e. omega arith)) refl;
  variable = λ l b. rw (differ l k (λ e. omega arith)) refl;
}

pub side_none : (ts : List Side) (i : Instance) (r : ℕ) → length ts ≤ r → side_variable ts i r ≡ None
side_none [] i r b = refl
side_none (t ∷ ts) i zero b = absurd (omega arith)
side_none (t ∷ ts) i (suc r) b = side_none ts i r (omega arith)

pub side_empty : (n : ℕ) (ts : List Side) (i : Instance) (w r : ℕ) → length ts ≤ r → side_occurs n ts i w r ≡ false
side_empty n [] i w r b = refl
side_empty n (t ∷ ts) i w zero b = absurd (omega arith)
side_empty n (t ∷ ts) i w (suc r) b = side_empty n ts i w r (omega arith)

-- the slots of the sides
pub puts_here : (n : ℕ) (ts : List Side) (k : ℕ) (i : Instance) → n ≤ k → AreBelow n ts → (r : ℕ) → r < length ts
    → ((w : ℕ) → (put_terms n k ts i).occurs w (k + r) ≡ side_occurs n ts i w r) × ((put_terms n k ts i).variable (k + r) ≡ side_variable ts i r)
puts_here n [] k i later low r b = absurd (omega arith)
puts_here n (t ∷ ts) k i later low zero b =
    let (f, g) = puts_other n ts (suc k) (put_term n k t i) (k + 0) (omega arith) in
    let e : nat_eq (k + 0) k ≡ true = eq-eqb (k + 0) k (omega arith) in
    (λ w. f w ∙ rw e refl, g ∙ rw e refl)
puts_here n (t ∷ ts) k i later low (suc r) b =
    let (f, g) = puts_here n ts (suc k) (put_term n k t i) (omega arith) (λ x m. low x (inr m)) r (omega arith) in
    let e : suc k + r ≡ k + suc r = omega arith in
    let s = same_put n k t i later in (
      λ w. ap ((put_terms n (suc k) ts (put_term n k t i)).occurs w) (sym e) ∙ f w ∙ side_occurs_same n (put_term n k t i) i s ts w r,
      ap (put_terms n (suc k) ts (put_term n k t i)).variable (sym e) ∙ g ∙ side_variable_same n (put_term n k t i) i s ts (λ x m. low x (inr m)) r,
    )
