-- refine and enter describe the instance after the substitution.
use Rattle.std.proofs.Common.{◌≡◌, ℕ, zero, suc, ◌+◌, ◌<◌, Bool, true, false, nat_lt, List, [], ◌∷◌, length, Option, Some, None, refl, sym, ◌∙◌, ap, subst}
use Rattle.std.proofs.Common.{inl, inr, arith, ◌-◌}
use Rattle.std.proofs.lemmas.Bool.Decides.{nat_tests}
use Rattle.plai_base.specs.Mask.{has_slot, mask_of}
use Rattle.plai_domain.specs.declared.action.Action.{Action}
use Rattle.plai_domain.specs.declared.action.Action.TheVariants as action
use Rattle.plai_share_laws.specs.Shares.{Shares, Side, Slot, Other, slots_of, unify, widen, widen_by, first_slots, havocked, grounded, same, var_at}
use Rattle.plai_share_laws.specs.Shares.{nonvar_at, any_meets, freed}
use Rattle.plai_share_laws.proofs.Ordered.{IsBelow}
use Rattle.plai_share_laws.proofs.Meaning.{Instance, IsInstance, Describes, Change, IsMoved, IsLocal, variable_at, arguments, extended, AreBelow}
use Rattle.plai_share_laws.proofs.Meaning.{side_variable, IsEmpty, Allows, IsUnified, new_terms}
use Rattle.plai_share_laws.specs.Calls.{unify_each, enter, extend, raise, side_at, refine, first_of_some}
use Rattle.plai_share_laws.proofs.Masks.{by_test, has_of, of_has, has_zero}
use Rattle.plai_share_laws.proofs.Unify.{unify_describes}
use Rattle.plai_share_laws.proofs.Local.{havocked_describes, grounded_describes, same_describes, var_describes, nonvar_describes}
use Rattle.plai_share_laws.proofs.Extend.{extend_describes, extend_slots}
use Rattle.plai_share_laws.proofs.NewSlots.{IsLike, like_describes, news_describe}
use Rattle.plai_share_laws.proofs.Back.{extended_wf, extended_moved, raise_shift, of_shift, local_up, unifier_up, occurs_down, touch_down, first_again}

var_slots : (t : Side) (v w : Shares) → var_at t v ≡ Some w → w.slots ≡ v.slots
var_slots (Other set) v w e = cc
var_slots (Slot x) v w e = by_test (any_meets (mask_of x) v.groups)
    (λ t. let f : Some (freed x v) ≡ Some w = rw t at e in some_slots (freed x v) w f)
    (λ t. let f = rw t at e in cc)
  where
    some_slots : (u w : Shares) → Some u ≡ Some w → w.slots ≡ u.slots
    some_slots u w f = let g : u ≡ w = cc in ap (λ (z : Shares). z.slots) (sym g)

nonvar_slots : (t : Side) (v w : Shares) → nonvar_at t v ≡ Some w → w.slots ≡ v.slots
nonvar_slots (Other set) v w e = let g : v ≡ w = cc in ap (λ (z : Shares). z.slots) (sym g)
nonvar_slots (Slot x) v w e = by_test (has_slot v.free x)
    (λ t. let f = rw t at e in cc)
    (λ t. let f : Some v ≡ Some w = rw t at e in let g : v ≡ w = cc in ap (λ (z : Shares). z.slots) (sym g))

-- a substitution that moves nothing
module _ (i : Instance) (c : Change) (j : Instance) (moved : IsMoved i c j) (empty : IsEmpty c) where
  still_occurs : (w k : ℕ) → i.occurs w k ≡ true → j.occurs w k ≡ true
  still_occurs w k e = moved.into w w k e (empty w).itself

  occurred : (w k : ℕ) → j.occurs w k ≡ true → i.occurs w k ≡ true
  occurred w k e = let (v, f, p) = moved.from w k e in subst (λ z. i.occurs z k ≡ true) (sym ((empty v).only w p)) f

  equal : (p q : Bool) → (p ≡ true → q ≡ true) → (q ≡ true → p ≡ true) → p ≡ q
  equal true q f g = sym (f refl)
  equal false true f g = g refl
  equal false false f g = refl

  pub unmoved : IsLike i j
  unmoved = record {
    occurs = λ w l. equal (i.occurs w l) (j.occurs w l) (still_occurs w l) (occurred w l);
    variable = λ l y e. moved.to_variable l y y e (empty y).image;
    variable_back = λ l y e. let (v, f, p) = moved.from_variable l y e in let q = (empty v).image in cc;
  }

side_at_variable : (args : List Side) (i : Instance) (r : ℕ) → side_variable args i r ≡ variable_at i (side_at args r)
side_at_variable [] i r = refl
side_at_variable (t ∷ ts) i zero = refl
side_at_variable (t ∷ ts) i (suc r) = side_at_variable ts i r

below_test : (k n : ℕ) → k < n → nat_lt k n ≡ true
below_test k n l = grind (arith, nat_tests)

-- a side's variable in the extended instance
variable_up : (n number : ℕ) (args : List Side) (i : Instance) → IsInstance n number i → (t : Side) (y : ℕ) → variable_at i t ≡ Some y
    → variable_at (extended n args i) t ≡ Some y
variable_up n number args i wf (Slot k) y e = rw (below_test k n (wf.within y k (wf.itself k y e))) e
variable_up n number args i wf (Other set) y e = e

no_variable_up : (n : ℕ) (args : List Side) (i : Instance) (t : Side) → IsBelow n (slots_of t) → variable_at i t ≡ None
    → variable_at (extended n args i) t ≡ None
no_variable_up n args i (Slot k) low e = rw (below_test k n (low k (has_of k))) e
no_variable_up n args i (Other set) low e = e

side_at_below : (n : ℕ) (args : List Side) (r : ℕ) → AreBelow n args → IsBelow n (slots_of (side_at args r))
side_at_below n [] r low = λ k h. absurd (has_zero k h)
side_at_below n (t ∷ ts) zero low = low t (inl refl)
side_at_below n (t ∷ ts) (suc r) low = side_at_below n ts r (λ x m. low x (inr m))

some_first : (n : ℕ) (o : Option Shares) (w : Shares) → o ≡ Some w → first_of_some n o ≡ Some (first_slots n w)
some_first n o w e = ap (first_of_some n) e

module _ (n number later : ℕ) (args : List Side) (v : Shares) (i j : Instance) (c : Change) (size : v.slots ≡ n) (low : AreBelow n args)
    (wf : IsInstance n number i) (wf_after : IsInstance n later j) (d : Describes v i) (moved : IsMoved i c j) where
  abbrev big : Shares
  big = extend n args v

  known : Describes big (extended n args i)
  known = extend_describes n number args v i size low wf d

  sized : big.slots ≡ n + length args
  sized = extend_slots n number args v i size low wf

  big_wf : IsInstance big.slots number (extended n args i)
  big_wf = subst (λ z. IsInstance z number (extended n args i)) (sym sized) (extended_wf n number i wf args)

  big_moved : IsMoved (extended n args i) c (extended n args j)
  big_moved = extended_moved n number i wf c j moved args

  grounds : (a : ℕ) → IsLocal (arguments n args i) (mask_of a) number c → ((w : ℕ) → (arguments n args j).occurs w a ≡ true → ⊥)
      → Describes (grounded (mask_of (n + a)) big) (extended n args j)
  grounds a loc none = grounded_describes number big (extended n args i) (extended n args j) c (mask_of (n + a)) big_wf known big_moved
      (local_up n args i number (mask_of (n + a)) (mask_of a) c (of_shift n a) loc)
      (λ w k h o. let (r, p, q) = touch_down n args j (mask_of (n + a)) (mask_of a) w (of_shift n a) (k, h, o) in
      none w (subst (λ z. (arguments n args j).occurs w z ≡ true) (of_has a r p) q))

  -- a state that describes the extended instance, where nothing moved
  still : IsEmpty c → (w : Shares) → w.slots ≡ n + length args → Describes w (extended n args i) → Describes (first_slots n w) j
  still empty w e f = like_describes (first_slots n w) i j (unmoved i c j moved empty) (first_again n number args i wf w e f)

  pub refine_describes : (action : Action) → Allows action number (arguments n args i) c (arguments n args j)
      → (w : Shares) × (refine n args action v ≡ Some w) × Describes w j
  refine_describes action.Fail h = absurd h
  refine_describes (action.Unify a b) h = (
    _,
    refl,
    first_again n later args j wf_after (unify (Slot (n + (a - 1))) (Slot (n + (b - 1))) big) sized
        (unify_describes number big (extended n args i) (extended n args j) c (Slot (n + (a - 1))) (Slot (n + (b - 1))) big_wf known big_moved
        (unifier_up n args i (a - 1) (b - 1) c h)),
  )
  refine_describes (action.Same a b) h = (
    _,
    refl,
    still h.0 (same (mask_of (n + (a - 1))) (mask_of (n + (b - 1))) big) sized
        (same_describes number big (extended n args i) (n + (a - 1)) (n + (b - 1)) big_wf known
        (λ w. occurs_down n args i w (a - 1) ∙ h.1 w ∙ sym (occurs_down n args i w (b - 1)))),
  )
  refine_describes (action.Ground a) h = (_, refl, first_again n later args j wf_after (grounded (mask_of (n + (a - 1))) big) sized (grounds (a - 1) h.0 h.1))
  refine_describes (action.BindInt a) h = (_, refl, first_again n later args j wf_after (grounded (mask_of (n + (a - 1))) big) sized (grounds (a - 1) h.0 h.1))
  refine_describes (action.Var a) h =
      let (empty, y, e) = h in
      let is = variable_up n number args i wf (side_at args (a - 1)) y (sym (side_at_variable args i (a - 1)) ∙ e) in
      let (w, f, g) = var_describes number big (extended n args i) (side_at args (a - 1)) y big_wf known is in
      (first_slots n w, some_first n (var_at (side_at args (a - 1)) big) w f, still empty w (var_slots (side_at args (a - 1)) big w f ∙ sized) g)
  refine_describes (action.Nonvar a) h =
      let is = no_variable_up n args i (side_at args (a - 1)) (side_at_below n args (a - 1) low) (sym (side_at_variable args i (a - 1)) ∙ h.1) in
      let (w, f, g) = nonvar_describes big (extended n args i) (side_at args (a - 1)) known is in
      (first_slots n w, some_first n (nonvar_at (side_at args (a - 1)) big) w f, still h.0 w (nonvar_slots (side_at args (a - 1)) big w f ∙ sized) g)
  refine_describes (action.Havoc set) h = (
    _,
    refl,
    first_again n later args j wf_after (havocked (raise n set) big) sized
        (havocked_describes number big (extended n args i) (extended n args j) c (raise n set) big_wf known big_moved
        (local_up n args i number (raise n set) set c (raise_shift n set) h)),
  )

-- unify with the head's arguments in turn
pub unified_describes : (ts : List Side) (k : ℕ) (v : Shares) (i l : Instance) → Describes v i → IsUnified v.slots k ts i l
    → Describes (unify_each k ts v) l
unified_describes [] k v i l d h = subst (λ (z : Instance). Describes v z) h d
unified_describes (t ∷ ts) k v i l d h =
    let (number, c, j, wf, u, moved, rest) = h in
    unified_describes ts (suc k) (unify (Slot k) t v) j l (unify_describes number v i j c (Slot k) t wf d moved u) rest

pub widened_slots : (m : ℕ) (v : Shares) → (widen_by m v).slots ≡ v.slots + m
widened_slots zero v = omega arith
widened_slots (suc m) v = widened_slots m (widen v) ∙ (let e : suc v.slots + m ≡ v.slots + suc m = omega arith in e)

-- a described goal, unified with a head argument by argument
pub enter_describes : (variables number : ℕ) (head : List Side) (v : Shares) (i l : Instance) → IsInstance v.slots number i → Describes v i
    → IsUnified (v.slots + variables) 0 head (new_terms v.slots number variables i) l → Describes (enter variables head v) l
enter_describes variables number head v i l wf d h =
    let (e, f) = news_describe variables number v i wf d in
    unified_describes head 0 (widen_by variables v) (new_terms v.slots number variables i) l e
    (subst (λ z. IsUnified z 0 head (new_terms v.slots number variables i) l) (sym (widened_slots variables v)) h)
