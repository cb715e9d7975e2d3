-- The state that is extended by a literal's arguments, and call.
use Rattle.std.proofs.Common.{◌≡◌, ℕ, zero, suc, ◌+◌, ◌-◌, ◌<◌, ◌≤◌, Bool, true, false, nat_lt, List, [], ◌∷◌, length, Some, refl, sym, ◌∙◌, ap, subst, arith}
use Rattle.std.proofs.lemmas.Bool.Decides.{nat_tests}
use Rattle.plai_share_laws.specs.Shares.{Shares, Side, Slot, unify, widen, widen_by}
use Rattle.plai_share_laws.proofs.Meaning.{Instance, IsInstance, Describes, last_terms, side_occurs, side_variable, arguments, extended, AreBelow, new_terms}
use Rattle.plai_share_laws.specs.Calls.{unify_each, extend, call}
use Rattle.plai_share_laws.proofs.Masks.{by_test}
use Rattle.plai_share_laws.proofs.Parts.{last_describes}
use Rattle.plai_share_laws.proofs.NewSlots.{IsLike, like_describes, like_wf, put_terms, each_describes, news_own, news_describe, puts_other, news_other}
use Rattle.plai_share_laws.proofs.NewSlots.{AreSame, side_occurs_same, side_variable_same, side_none, side_empty, puts_here}

module _ (n number : ℕ) (args : List Side) (v : Shares) (i : Instance) (size : v.slots ≡ n) (low : AreBelow n args)
    (wf : IsInstance n number i) where
  abbrev middle : Instance
  middle = new_terms n number (length args) i

  abbrev last : Instance
  last = put_terms n n args middle

  same_middle : AreSame n middle i
  same_middle = record {
    occurs = λ w l b. (news_other (length args) n number i l b).0 w;
    variable = λ l b. (news_other (length args) n number i l b).1;
  }

  widened_slots : (m : ℕ) (v : Shares) → (widen_by m v).slots ≡ v.slots + m
  widened_slots zero v = omega arith
  widened_slots (suc m) v = widened_slots m (widen v) ∙ (let e : suc v.slots + m ≡ v.slots + suc m = omega arith in e)

  each_slots : (ts : List Side) (k : ℕ) (v : Shares) → (unify_each k ts v).slots ≡ v.slots
  each_slots [] k v = refl
  each_slots (t ∷ ts) k v = each_slots ts (suc k) (unify (Slot k) t v)

  pub extend_slots : (extend n args v).slots ≡ n + length args
  extend_slots = each_slots args n (widen_by (length args) v) ∙ widened_slots (length args) v ∙ ap (λ z. z + length args) size

  made : Describes v i → Describes (extend n args v) last × IsInstance (n + length args) (number + length args) last
  made d =
      let wv : IsInstance v.slots number i = subst (λ z. IsInstance z number i) (sym size) wf in
      let (e, f) = news_describe (length args) number v i wv d in
      let is : new_terms v.slots number (length args) i ≡ middle = ap (λ z. new_terms z number (length args) i) size in
      let (g, h) = each_describes n (number + length args) args n (widen_by (length args) v) middle (omega arith) low
      (subst (λ (z : Instance). IsInstance (widen_by (length args) v).slots (number + length args) z) is f)
      (subst (λ (z : Instance). Describes (widen_by (length args) v) z) is e)
      (λ l a b. news_own (length args) n number i wf l a b) in
      (g, subst (λ z. IsInstance z (number + length args) last) extend_slots h)

  -- at each slot
  at_low : (l : ℕ) → l < n → ((w : ℕ) → last.occurs w l ≡ i.occurs w l) × (last.variable l ≡ i.variable l)
  at_low l b =
      let (f, g) = puts_other n args n middle l b in
      (λ w. f w ∙ same_middle.occurs w l b, g ∙ same_middle.variable l b)

  at_args : (r : ℕ) → r < length args → ((w : ℕ) → last.occurs w (n + r) ≡ side_occurs n args i w r) × (last.variable (n + r) ≡ side_variable args i r)
  at_args r b =
      let (f, g) = puts_here n args n middle (omega arith) low r b in
      (λ w. f w ∙ side_occurs_same n middle i same_middle args w r, g ∙ side_variable_same n middle i same_middle args low r)

  below_when : (a b : ℕ) → nat_lt a b ≡ true → a < b
  below_when a b t = grind (arith, nat_tests)

  above_when : (a b : ℕ) → nat_lt a b ≡ false → b ≤ a
  above_when a b t = grind (arith, nat_tests)

  not_true : (b : Bool) → (b ≡ true → ⊥) → b ≡ false
  not_true b h = by_test b (λ t. absurd (h t)) (λ f. f)

  like_extended : IsInstance (n + length args) (number + length args) last → IsLike last (extended n args i)
  like_extended f = record {
    occurs = λ w l. by_test (nat_lt l n)
        (λ t. rw t ((at_low l (below_when l n t)).0 w))
        (λ t. let a = above_when l n t in
        let up : l ≡ n + (l - n) = omega arith in
        rw t (by_test (nat_lt (l - n) (length args))
        (λ u. ap (last.occurs w) up ∙ (at_args (l - n) (below_when (l - n) (length args) u)).0 w)
        (λ u. let b = above_when (l - n) (length args) u in
        not_true (last.occurs w l) (λ o. let c = f.within w l o in omega arith) ∙ sym (side_empty n args i w (l - n) b))));
    variable = λ l y e. by_test (nat_lt l n)
        (λ t. rw t (sym (at_low l (below_when l n t)).1 ∙ e))
        (λ t. let a = above_when l n t in
        let up : l ≡ n + (l - n) = omega arith in
        rw t (by_test (nat_lt (l - n) (length args))
        (λ u. sym (at_args (l - n) (below_when (l - n) (length args) u)).1 ∙ sym (ap last.variable up) ∙ e)
        (λ u. let b = above_when (l - n) (length args) u in let c = f.within y l (f.itself l y e) in absurd (omega arith))));
    variable_back = λ l y e. by_test (nat_lt l n)
        (λ t. (at_low l (below_when l n t)).1 ∙ (rw t at e))
        (λ t. let a = above_when l n t in
        let up : l ≡ n + (l - n) = omega arith in
        let g : side_variable args i (l - n) ≡ Some y = rw t at e in
        by_test (nat_lt (l - n) (length args))
        (λ u. ap last.variable up ∙ (at_args (l - n) (below_when (l - n) (length args) u)).1 ∙ g)
        (λ u. let b = above_when (l - n) (length args) u in let z = side_none args i (l - n) b in cc));
  }

  pub extend_describes : Describes v i → Describes (extend n args v) (extended n args i)
  extend_describes d = let (g, h) = made d in like_describes (extend n args v) last (extended n args i) (like_extended h) g

  pub extend_wf : Describes v i → IsInstance (n + length args) (number + length args) (extended n args i)
  extend_wf d = let (g, h) = made d in like_wf (n + length args) (number + length args) last (extended n args i) (like_extended h) h

  like_arguments : IsLike (last_terms n (extended n args i)) (arguments n args i)
  like_arguments = record {
    occurs = λ w l. rw (past l) (ap (side_occurs n args i w) (back_to l));
    variable = λ l y e. sym (ap (side_variable args i) (back_to l)) ∙ (rw (past l) at e);
    variable_back = λ l y e. rw (past l) (ap (side_variable args i) (back_to l) ∙ e);
  }
    where
      past : (l : ℕ) → nat_lt (n + l) n ≡ false
      past l = grind (arith, nat_tests)

      back_to : (l : ℕ) → (n + l) - n ≡ l
      back_to l = omega arith

  -- call
  pub call_describes : Describes v i → Describes (call n args v) (arguments n args i)
  call_describes d =
      let wf = subst (λ z. IsInstance z (number + length args) (extended n args i)) (sym extend_slots) (extend_wf d) in
      like_describes (call n args v) (last_terms n (extended n args i)) (arguments n args i) like_arguments
      (last_describes (number + length args) n (length args) (extend n args v) (extended n args i) extend_slots wf (extend_describes d))
