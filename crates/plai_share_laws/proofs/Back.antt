-- back and refine describe the instance after the substitution.
use Rattle.std.proofs.Common.{◌≡◌, ℕ, zero, suc, ◌+◌, ◌-◌, ◌<◌, ◌≤◌, true, false, nat_lt, bit_and, List, [], ◌∷◌, map, length, Some, None, refl, sym, ◌∙◌, ap}
use Rattle.std.proofs.Common.{subst, inl, inr, arith}
use Rattle.std.proofs.lemmas.Bool.Decides.{nat_tests}
use Rattle.plai_base.specs.Mask.{mask_of, all_true}
use Rattle.plai_base.proofs.Bits.{top_slot}
use Rattle.plai_share_laws.proofs.Values.{in_all}
use Rattle.plai_share_laws.proofs.Members.{IsIn}
use Rattle.plai_share_laws.specs.Groups.{Has}
use Rattle.plai_share_laws.specs.Shares.{Shares, Side, Slot, Other, slots_of, first_slots, answered}
use Rattle.plai_share_laws.proofs.Meaning.{Instance, IsInstance, group, Describes, Change, IsMoved, Touches, IsLocal, Answers, Renames, IsUnifier}
use Rattle.plai_share_laws.proofs.Meaning.{first_terms, side_occurs, side_variable, arguments, extended, AreBelow}
use Rattle.plai_share_laws.specs.Calls.{extend, back, raise}
use Rattle.plai_share_laws.proofs.Masks.{by_test, not_both, same_mask, has_of, of_has, meets_at, meet_slot, from_has, has_from, and_left, and_right, has_and}
use Rattle.plai_share_laws.proofs.Lists.{by_either, map_in}
use Rattle.plai_share_laws.proofs.Unify.{only_variable}
use Rattle.plai_share_laws.proofs.Local.{answered_describes}
use Rattle.plai_share_laws.proofs.Parts.{raised_has, has_raised, raised_above, first_describes}
use Rattle.plai_share_laws.proofs.Extend.{extend_describes, extend_slots}
use Rattle.plai_share_laws.proofs.NewSlots.{IsLike, like_describes, side_empty}

lower : (k n : ℕ) → nat_lt k n ≡ true → k < n
lower k n t = grind (arith, nat_tests)

higher : (k n : ℕ) → nat_lt k n ≡ false → n ≤ k
higher k n t = grind (arith, nat_tests)

past : (n l : ℕ) → nat_lt (n + l) n ≡ false
past n l = grind (arith, nat_tests)

back_to : (n l : ℕ) → (n + l) - n ≡ l
back_to n l = omega arith

up_to : (n l : ℕ) → n ≤ l → l ≡ n + (l - n)
up_to n l h = omega arith

-- a side's variables stem from slots
side_slot : (n : ℕ) (ts : List Side) (i : Instance) (w r : ℕ) → side_occurs n ts i w r ≡ true → (x : ℕ) × (i.occurs w x ≡ true)
side_slot n [] i w r e = cc
side_slot n (t ∷ ts) i w zero e =
    let (x, p, h) = meet_slot (slots_of t) (group i n w) e in let (b, o) = from_has (i.occurs w) n x h in (x, o)
side_slot n (t ∷ ts) i w (suc r) e = side_slot n ts i w r e

module _ (n number : ℕ) (i : Instance) (wf : IsInstance n number i) where
  side_alone : (ts : List Side) (r v w : ℕ) → side_variable ts i r ≡ Some v → side_occurs n ts i w r ≡ true → w ≡ v
  side_alone [] r v w e o = cc
  side_alone (t ∷ ts) zero v w e o =
      let (x, p, h) = meet_slot (slots_of t) (group i n w) o in let (b, q) = from_has (i.occurs w) n x h in
      only_variable n number i wf t v e w (x, p, q)
  side_alone (t ∷ ts) (suc r) v w e o = side_alone ts r v w e o

  side_itself : (ts : List Side) (r v : ℕ) → side_variable ts i r ≡ Some v → side_occurs n ts i v r ≡ true
  side_itself [] r v e = cc
  side_itself (Slot k ∷ ts) zero v e = let o = wf.itself k v e in
      meets_at (mask_of k) (group i n v) k (has_of k) (has_from (i.occurs v) n k (wf.within v k o) o)
  side_itself (Other set ∷ ts) zero v e = cc
  side_itself (t ∷ ts) (suc r) v e = side_itself ts r v e

  -- the extended instance
  pub extended_wf : (args : List Side) → IsInstance (n + length args) number (extended n args i)
  extended_wf args = record {
    below = λ w l e. by_test (nat_lt l n) (λ t. wf.below w l (rw t at e))
        (λ t. let (x, o) = side_slot n args i w (l - n) (rw t at e) in wf.below w x o);
    within = λ w l e. by_test (nat_lt l n) (λ t. let b = lower l n t in omega arith)
        (λ t. let a = higher l n t in
        by_test (nat_lt (l - n) (length args)) (λ u. let b = lower (l - n) (length args) u in omega arith)
        (λ u. absurd (not_both (rw t at e) (side_empty n args i w (l - n) (higher (l - n) (length args) u)))));
    alone = λ l v w e o. by_test (nat_lt l n) (λ t. wf.alone l v w (rw t at e) (rw t at o))
        (λ t. side_alone args (l - n) v w (rw t at e) (rw t at o));
    itself = λ l v e. by_test (nat_lt l n) (λ t. rw t (wf.itself l v (rw t at e)))
        (λ t. rw t (side_itself args (l - n) v (rw t at e)));
  }

-- a substitution moves the extended instance as it moves the instance
module _ (n number : ℕ) (i : Instance) (wf : IsInstance n number i) (c : Change) (j : Instance) (moved : IsMoved i c j) where
  side_into : (ts : List Side) (r v w : ℕ) → side_occurs n ts i v r ≡ true → c.puts v w ≡ true → side_occurs n ts j w r ≡ true
  side_into [] r v w o p = o
  side_into (t ∷ ts) zero v w o p =
      let (x, q, h) = meet_slot (slots_of t) (group i n v) o in let (b, f) = from_has (i.occurs v) n x h in
      meets_at (slots_of t) (group j n w) x q (has_from (j.occurs w) n x b (moved.into v w x f p))
  side_into (t ∷ ts) (suc r) v w o p = side_into ts r v w o p

  side_from : (ts : List Side) (r w : ℕ) → side_occurs n ts j w r ≡ true → (v : ℕ) × (side_occurs n ts i v r ≡ true) × (c.puts v w ≡ true)
  side_from [] r w o = cc
  side_from (t ∷ ts) zero w o =
      let (x, q, h) = meet_slot (slots_of t) (group j n w) o in let (b, f) = from_has (j.occurs w) n x h in
      let (v, g, p) = moved.from w x f in
      (v, meets_at (slots_of t) (group i n v) x q (has_from (i.occurs v) n x b g), p)
  side_from (t ∷ ts) (suc r) w o = side_from ts r w o

  side_to_variable : (ts : List Side) (r v u : ℕ) → side_variable ts i r ≡ Some v → c.image v ≡ Some u → side_variable ts j r ≡ Some u
  side_to_variable [] r v u e p = cc
  side_to_variable (Slot k ∷ ts) zero v u e p = moved.to_variable k v u e p
  side_to_variable (Other set ∷ ts) zero v u e p = cc
  side_to_variable (t ∷ ts) (suc r) v u e p = side_to_variable ts r v u e p

  side_from_variable : (ts : List Side) (r u : ℕ) → side_variable ts j r ≡ Some u → (v : ℕ) × (side_variable ts i r ≡ Some v) × (c.image v ≡ Some u)
  side_from_variable [] r u e = cc
  side_from_variable (Slot k ∷ ts) zero u e = moved.from_variable k u e
  side_from_variable (Other set ∷ ts) zero u e = cc
  side_from_variable (t ∷ ts) (suc r) u e = side_from_variable ts r u e

  pub extended_moved : (args : List Side) → IsMoved (extended n args i) c (extended n args j)
  extended_moved args = record {
    into = λ v w l o p. by_test (nat_lt l n) (λ t. rw t (moved.into v w l (rw t at o) p))
        (λ t. rw t (side_into args (l - n) v w (rw t at o) p));
    from = λ w l o. by_test (nat_lt l n)
        (λ t. let (v, f, p) = moved.from w l (rw t at o) in (v, rw t f, p))
        (λ t. let (v, f, p) = side_from args (l - n) w (rw t at o) in (v, rw t f, p));
    to_variable = λ l v u e p. by_test (nat_lt l n) (λ t. rw t (moved.to_variable l v u (rw t at e) p))
        (λ t. rw t (side_to_variable args (l - n) v u (rw t at e) p));
    from_variable = λ l u e. by_test (nat_lt l n)
        (λ t. let (v, f, p) = moved.from_variable l u (rw t at e) in (v, rw t f, p))
        (λ t. let (v, f, p) = side_from_variable args (l - n) u (rw t at e) in (v, rw t f, p));
  }

-- a is the set b, n slots higher
pub record IsShift (n a b : ℕ) : Type 0 where
  pub down : (l : ℕ) → Has a l → (r : ℕ) × (l ≡ n + r) × Has b r
  pub up : (r : ℕ) → Has b r → Has a (n + r)

pub raise_shift : (n set : ℕ) → IsShift n (raise n set) set
raise_shift n set = record {
  down = λ l h. let e = up_to n l (raised_above set n l h) in (l - n, e, raised_has set n (l - n) (subst (λ z. Has (raise n set) z) e h));
  up = λ r h. has_raised set n r h;
}

pub of_shift : (n k : ℕ) → IsShift n (mask_of (n + k)) (mask_of k)
of_shift n k = record {
  down = λ l h. (k, of_has (n + k) l h, has_of k);
  up = λ r h. subst (λ z. Has (mask_of (n + k)) (n + z)) (sym (of_has k r h)) (has_of (n + k));
}

module _ (n : ℕ) (args : List Side) (i : Instance) where
  -- the extended instance at the argument's slots
  pub touch_down : (a b v : ℕ) → IsShift n a b → Touches (extended n args i) a v → Touches (arguments n args i) b v
  touch_down a b v s t =
      let (l, h, o) = t in
      let (r, e, p) = s.down l h in
      (r, p, at r (subst (λ z. (extended n args i).occurs v z ≡ true) e o))
    where
      at : (r : ℕ) → (extended n args i).occurs v (n + r) ≡ true → side_occurs n args i v r ≡ true
      at r o = ap (side_occurs n args i v) (sym (back_to n r)) ∙ (rw (past n r) at o)

  touch_up : (a b v : ℕ) → IsShift n a b → Touches (arguments n args i) b v → Touches (extended n args i) a v
  touch_up a b v s t =
      let (r, h, o) = t in
      (n + r, s.up r h, rw (past n r) (ap (side_occurs n args i v) (back_to n r) ∙ o))

  pub variable_down : (r : ℕ) → (extended n args i).variable (n + r) ≡ side_variable args i r
  variable_down r = rw (past n r) (ap (side_variable args i) (back_to n r))

  pub occurs_down : (w r : ℕ) → (extended n args i).occurs w (n + r) ≡ side_occurs n args i w r
  occurs_down w r = rw (past n r) (ap (side_occurs n args i w) (back_to n r))

  pub local_up : (number a b : ℕ) (c : Change) → IsShift n a b → IsLocal (arguments n args i) b number c → IsLocal (extended n args i) a number c
  local_up number a b c s loc = record {
    leaves = λ v nt. loc.leaves v (λ t. nt (touch_up a b v s t));
    brings = λ v w t p. by_either (loc.brings v w (touch_down a b v s t) p) (λ u. inl (touch_up a b w s u)) inr;
  }

  renames_up : (a b : ℕ) (c : Change) → IsShift n a b → Renames (arguments n args i) b c → Renames (extended n args i) a c
  renames_up a b c s ren = record {
    to_variable = λ v t. ren.to_variable v (touch_down a b v s t);
    apart = λ v w u t h. ren.apart v w u (touch_down a b v s t) (touch_down a b w s h);
  }

  pub unifier_up : (k l : ℕ) (c : Change) → IsUnifier (arguments n args i) (Slot k) (Slot l) c → IsUnifier (extended n args i) (Slot (n + k)) (Slot (n + l)) c
  unifier_up k l c u =
      let s = of_shift n k in
      let r = of_shift n l in
      let a = mask_of (n + k) in
      let b = mask_of (n + l) in
      let x = mask_of k in
      let y = mask_of l in
      record {
        unifies = record {
          leaves = λ v na nb. u.unifies.leaves v (λ t. na (touch_up a x v s t)) (λ t. nb (touch_up b y v r t));
          brings = λ v w t p. by_either (u.unifies.brings v w (by_either t (λ h. inl (touch_down a x v s h)) (λ h. inr (touch_down b y v r h))) p)
              (λ h. inl (touch_up a x w s h)) (λ h. inr (touch_up b y w r h));
          across = λ v w t p. let (z, h, q) = u.unifies.across v w (touch_down a x v s t) p in (z, touch_up b y z r h, q);
          back = λ v w t p. let (z, h, q) = u.unifies.back v w (touch_down b y v r t) p in (z, touch_up a x z s h, q);
        };
        left = λ z e. renames_up b y c r (u.left z (sym (variable_down k) ∙ e));
        right = λ z e. renames_up a x c s (u.right z (sym (variable_down l) ∙ e));
      }

module _ (n later : ℕ) (args : List Side) (j : Instance) (wf : IsInstance n later j) where
  -- the answer's groups and free slots, n slots higher
  shifted : (answer : Shares) → answer.slots ≡ length args → Describes answer (arguments n args j)
      → Answers (n + length args) (raise n (all_true (length args))) (map (raise n) answer.groups) (raise n answer.free) (extended n args j)
  shifted answer size d = record {
    groups = λ w l h o.
        let s = raise_shift n (all_true (length args)) in
        let (r, p, q) = touch_down n args j (raise n (all_true (length args))) (all_true (length args)) w s (l, h, o) in
        subst (λ g. IsIn g (map (raise n) answer.groups)) (sym (part w))
        (map_in (raise n) answer.groups (group (arguments n args j) answer.slots w) (d.groups w r q));
    free = λ k h f.
        let (r, e, p) = (raise_shift n answer.free).down k f in
        let (u, g) = d.free r p in
        (u, subst (λ z. (extended n args j).variable z ≡ Some u) (sym e) (variable_down n args j r ∙ g));
  }
    where
      part : (w : ℕ) → bit_and (raise n (all_true (length args))) (group (extended n args j) (n + length args) w)
          ≡ raise n (group (arguments n args j) answer.slots w)
      part w = same_mask _ _
          (λ k h.
          let b = and_left (raise n (all_true (length args))) (group (extended n args j) (n + length args) w) k h in
          let g = and_right (raise n (all_true (length args))) (group (extended n args j) (n + length args) w) k h in
          let (l, o) = from_has ((extended n args j).occurs w) (n + length args) k g in
          let (r, e, p) = (raise_shift n (all_true (length args))).down k b in
          let m = in_all (length args) r p in
          let q : side_occurs n args j w r ≡ true =
          ap (side_occurs n args j w) (sym (back_to n r)) ∙ (rw (past n r) at (subst (λ z. (extended n args j).occurs w z ≡ true) e o)) in
          subst (λ z. Has (raise n (group (arguments n args j) answer.slots w)) z) (sym e)
          (has_raised (group (arguments n args j) answer.slots w) n r (has_from (side_occurs n args j w) answer.slots r (omega arith) q)))
          (λ k h.
          let (r, e, p) = (raise_shift n (group (arguments n args j) answer.slots w)).down k h in
          let (l, q) = from_has (side_occurs n args j w) answer.slots r p in
          let b : r < length args = omega arith in
          subst (λ z. Has (bit_and (raise n (all_true (length args))) (group (extended n args j) (n + length args) w)) z) (sym e)
          (has_and _ _ (n + r) (has_raised (all_true (length args)) n r (top_slot (length args) r b))
          (has_from ((extended n args j).occurs w) (n + length args) (n + r) (omega arith)
          (rw (past n r) (ap (side_occurs n args j w) (back_to n r) ∙ q)))))

  like_first : IsLike (first_terms n (extended n args j)) j
  like_first = record {
    occurs = λ w l. by_test (nat_lt l n) (λ t. rw t refl)
        (λ t. rw t (by_test (j.occurs w l) (λ o. let a = wf.within w l o in let b = higher l n t in absurd (omega arith)) (λ o. sym o)));
    variable = λ l y e. by_test (nat_lt l n) (λ t. rw t at e) (λ t. let z : None ≡ Some y = rw t at e in cc);
    variable_back = λ l y e. by_test (nat_lt l n) (λ t. rw t e)
        (λ t. let a = wf.within y l (wf.itself l y e) in let b = higher l n t in absurd (omega arith));
  }

  -- back to the clause's slots
  pub first_again : (v : Shares) → v.slots ≡ n + length args → Describes v (extended n args j) → Describes (first_slots n v) j
  first_again v size d = like_describes (first_slots n v) (first_terms n (extended n args j)) j like_first
      (first_describes later n v (extended n args j) (omega arith)
      (subst (λ z. IsInstance z later (extended n args j)) (sym size) (extended_wf n later j wf args)) d)

-- An answer that describes the arguments behind a local substitution gives a state that describes the instance behind it.
pub back_describes : (n number later : ℕ) (args : List Side) (v answer : Shares) (i j : Instance) (c : Change)
    → v.slots ≡ n → AreBelow n args → IsInstance n number i → IsInstance n later j → Describes v i → IsMoved i c j
    → IsLocal (arguments n args i) (all_true (length args)) number c
    → answer.slots ≡ length args → Describes answer (arguments n args j)
    → Describes (back n args v answer) j
back_describes n number later args v answer i j c size low wf wf_after d moved loc fits known =
    let a = raise n (all_true (length args)) in
    let slots = extend_slots n number args v i size low wf in
    first_again n later args j wf_after (answered a (map (raise n) answer.groups) (raise n answer.free) (extend n args v)) slots
    (answered_describes number (extend n args v) (extended n args i) (extended n args j) c a (map (raise n) answer.groups) (raise n answer.free)
    (subst (λ z. IsInstance z number (extended n args i)) (sym slots) (extended_wf n number i wf args))
    (extend_describes n number args v i size low wf d)
    (extended_moved n number i wf c j moved args)
    (local_up n args i number a (all_true (length args)) c (raise_shift n (all_true (length args))) loc)
    (subst (λ z. Answers z a (map (raise n) answer.groups) (raise n answer.free) (extended n args j)) (sym slots)
    (shifted n later args j wf_after answer fits known)))
