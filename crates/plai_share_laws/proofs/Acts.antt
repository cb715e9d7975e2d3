-- Call, back, refine and exit describe the instances that functions from variables to terms make.
use Rattle.std.proofs.Common.{◌≡◌, ℕ, ◌+◌, ◌<◌, ◌≤◌, true, nat_lt, List, [], map, length, Option, Some, refl, sym, ap, subst, ◌∙◌, arith}
use Rattle.std.proofs.lemmas.List.{length-map}
use Rattle.plai_terms.specs.declared.term.Term.{Term}
use Rattle.plai_terms.specs.declared.abs.Abs.{Abs}
use Rattle.plai_terms.specs.Term.{occurs}
use Rattle.plai_terms.specs.Substitution.{under, then_also, AreBelow}
use Rattle.plai_terms.specs.Substitution as terms
use Rattle.plai_terms.proofs.Under.{source_in, under_same, under_same_all, under_under_all}
use Rattle.plai_domain.specs.declared.action.Action.{Action}
use Rattle.plai_domain.specs.Plain.{StateView}
use Rattle.plai_domain.specs.Instances.{acts_within}
use Rattle.plai_domain.specs.Conditions.{IsHead, AreArguments}
use Rattle.plai_domain.specs.Allowed as domain
use Rattle.plai_domain.specs.Soundness.{numbers, Speaks, IsFrom}
use Rattle.plai_base.proofs.Bits.{top_slot}
use Rattle.plai_share_laws.specs.Shares.{Shares, Side}
use Rattle.plai_share_laws.specs.Sides.{side_of}
use Rattle.plai_share_laws.specs.Calls.{call, back, refine, exit}
use Rattle.plai_base.specs.Mask.{all_true}
use Rattle.plai_share_laws.specs.Sharing.{abs_of, shares_of, Describes, state_with, state_from, sides_of, sharing}
use Rattle.plai_share_laws.proofs.Members.{IsIn}
use Rattle.plai_share_laws.proofs.Ordered.{IsValue}
use Rattle.plai_share_laws.proofs.Masks.{by_test}
use Rattle.plai_share_laws.proofs.Parts.{first_describes}
use Rattle.plai_share_laws.proofs.Meaning.{Instance, IsInstance, arguments, AreBelow as SidesBelow, first_terms}
use Rattle.plai_share_laws.proofs.Meaning as meaning
use Rattle.plai_share_laws.proofs.NewSlots.{IsLike, like_describes}
use Rattle.plai_share_laws.proofs.Back.{back_describes}
use Rattle.plai_share_laws.proofs.Refine.{refine_describes}
use Rattle.plai_share_laws.proofs.Compose.{IfValue, call_value, back_value, exit_value, refine_value}
use Rattle.plai_share_laws.proofs.Placed.{placed, term_at, tuple_of, change_of, HaveBelow}
use Rattle.plai_share_laws.proofs.Likes.{like_sym, like_trans, like_local, like_allows, placed_like}
use Rattle.plai_share_laws.proofs.Described.{described, shared, place_of, in_place}
use Rattle.plai_share_laws.proofs.Allowed.{cut, cut_below, local_cut, touched, touch, allowed_tuple}
use Rattle.plai_share_laws.proofs.TermMoves.{terms_wf, terms_moved}
use Rattle.plai_share_laws.proofs.Tuples.{lower, lower_test, arguments_like, sides_below, call_tuple}
use Rattle.plai_share_laws.proofs.Entered.{terms_bounded}
use Rattle.plai_share_laws.proofs.Canonical.{is_value, is_shares}
use Rattle.plai_share_laws.proofs.Clause.{argument_low, are_low, same_maps, before_at, leq_self, at_slots, filled, moved_at, IsKnown, known, speaks, low_terms}

-- a value that describes these terms, as a pattern
pub pattern_describes : (v : Shares) (ts : List Term) → IsValue (length ts) v → meaning.Describes v (tuple_of ts) → Describes (abs_of v) ts
pattern_describes v ts p d = record {
  is_value = leq_self (length ts) v (is_shares (length ts) v p);
  described = shared v ts p.slots d;
}

-- and what a pattern that describes them says
pub of_pattern : (a : Abs) (ts : List Term) → Describes a ts → meaning.Describes (shares_of a) (tuple_of ts)
of_pattern a ts d =
    let p = is_value (length ts) (shares_of a) d.is_value.order.first in
    described (shares_of a) ts p.slots p.free d.described

some_state : (n v : ℕ) (o : Option Shares) (w : Shares) → o ≡ Some w → state_from n v o ≡ Some (state_with n v w)
some_state n v o w e = ap (state_from n v) e

module _ (head : List Term) (variables : ℕ) (st : StateView) (i : ℕ → Term) (args : List Term)
    (h : IsHead (length head) variables head) (a : AreArguments (length head) variables args) (d : Speaks sharing head variables st i) where
  abbrev size : ℕ
  size = length head + variables

  abbrev v : Shares
  v = shares_of st.abs

  here : IsKnown head variables st i v
  here = known head variables st i d

  value : IsValue size v
  value = is_value size v here.value

  abbrev sides : List Side
  sides = sides_of (length head) args

  abbrev passed : List Term
  passed = map (under i) args

  low : (t : Term) → IsIn t args → (x : ℕ) → occurs x t ≡ true → length head + x < size
  low t m x o = let l = argument_low variables args a.below t m x o in omega (arith, l)

  abbrev fill : (ℕ → Term) → Term → Term
  fill terms = under (λ x. terms (length head + x))

  passed_is : map (fill (at_slots head variables i)) args ≡ passed
  passed_is = same_maps (fill (at_slots head variables i)) (under i) args (λ t m. filled head variables i t (argument_low variables args a.below t m))

  like_passed : (n : ℕ) → IsInstance size n (placed size (at_slots head variables i))
      → IsLike (arguments size sides (placed size (at_slots head variables i))) (tuple_of passed)
  like_passed n wf = subst (λ ts. IsLike (arguments size sides (placed size (at_slots head variables i))) (tuple_of ts)) passed_is
      (arguments_like (length head) size n (at_slots head variables i) wf args low)

  as_many : length sides ≡ length passed
  as_many = length-map args (side_of (length head)) ∙ sym (length-map args (under i))

  -- the call describes the literal's arguments
  pub acts_call : Describes (sharing.call st args).value passed
  acts_call =
      let (n, b) = terms_bounded size (at_slots head variables i) in
      let wf = terms_wf size (at_slots head variables i) n b in
      let e : meaning.Describes (call size sides v) (tuple_of passed) =
      subst (λ ts. meaning.Describes (call size sides v) (tuple_of ts)) passed_is
      (call_tuple (length head) size n (at_slots head variables i) wf args low v here.value.slots here.describes) in
      subst (λ (s : StateView). Describes (sharing.call s args).value passed) (sym here.state)
      (pattern_describes (call size sides v) passed (subst (λ z. IsValue z (call size sides v)) as_many (call_value size sides v value)) e)

  -- a substitution, and what does the same below the number
  module _ (n : ℕ) (f : ℕ → Term) (from : IsFrom variables n i) where
    passed_below : AreBelow n passed
    passed_below w o = let (x, p, q) = source_in i w args o in from x (are_low variables args a.below x p) w q

    low_here : HaveBelow size n (at_slots head variables i)
    low_here = low_terms head variables i n h.below from

    wf : IsInstance size n (placed size (at_slots head variables i))
    wf = terms_wf size (at_slots head variables i) n low_here

    module _ (c : ℕ → Term) (same : (x : ℕ) → x < n → c x ≡ f x) where
      abbrev after : ℕ → Term
      after k = under c (at_slots head variables i k)

      abbrev later : ℕ
      later = (terms_bounded size after).0

      wf_after : IsInstance size later (placed size after)
      wf_after = terms_wf size after later (terms_bounded size after).1

      passed_after : map (fill after) args ≡ map (under c) passed
      passed_after = sym (under_under_all (λ x. at_slots head variables i (length head + x)) c args) ∙ ap (map (under c)) passed_is

      like_after : IsLike (arguments size sides (placed size after)) (tuple_of (map (under c) passed))
      like_after = subst (λ ts. IsLike (arguments size sides (placed size after)) (tuple_of ts)) passed_after
          (arguments_like (length head) size later after wf_after args low)

      passed_same : map (under c) passed ≡ map (under f) passed
      passed_same = under_same_all c f passed (λ x o. same x (passed_below x o))

      after_is : (k : ℕ) → k < size → after k ≡ at_slots head variables (then_also i f) k
      after_is k l = under_same c f (at_slots head variables i k) (λ x o. same x (low_here x k l o)) ∙ moved_at head variables i f k l

      speaks_after : (w : Shares) → IsValue size w → meaning.Describes w (placed size after)
          → Speaks sharing head variables (state_with (length head) variables w) (then_also i f)
      speaks_after w p e = speaks head variables (then_also i f) w after (is_shares size w p) after_is e

    sides_low : SidesBelow size sides
    sides_low = sides_below (length head) size n (at_slots head variables i) wf args low

    all_local : terms.IsLocal f n passed → meaning.IsLocal (tuple_of passed) (all_true (length sides)) n (change_of (cut n f))
    all_local loc = local_cut n f passed loc (tuple_of passed) (all_true (length sides))
        (λ x t. let (k, l, m, o) = touched passed (all_true (length sides)) x t in in_place x passed k l o)
        (λ x o. let (k, l, p) = place_of x passed o in
        touch passed (all_true (length sides)) x k l (top_slot (length sides) k (omega (arith, l, as_many))) p)

    -- an answer that describes the arguments behind a local substitution
    pub acts_back : (answer : Abs) → terms.IsLocal f n passed → Describes answer (map (under f) passed)
        → (next : StateView) × ((sharing.back st args answer).value ≡ Some next) × Speaks sharing head variables next (then_also i f)
    acts_back answer loc k =
        let c = cut n f in
        let same = cut_below n f in
        let w = back size sides v (shares_of answer) in
        let answered = of_pattern answer (map (under f) passed) k in
        let there : meaning.Describes (shares_of answer) (arguments size sides (placed size (after c same))) =
        like_describes (shares_of answer) (tuple_of (map (under c) passed)) (arguments size sides (placed size (after c same)))
        (like_sym (arguments size sides (placed size (after c same))) (tuple_of (map (under c) passed)) (like_after c same))
        (subst (λ ts. meaning.Describes (shares_of answer) (tuple_of ts)) (sym (passed_same c same)) answered) in
        let fits : (shares_of answer).slots ≡ length sides =
        k.is_value.order.first.slots ∙ length-map passed (under f) ∙ sym as_many in
        let e = back_describes size n (later c same) sides v (shares_of answer) (placed size (at_slots head variables i)) (placed size (after c same))
        (change_of c)
        here.value.slots sides_low wf (wf_after c same) here.describes (terms_moved size (at_slots head variables i) c)
        (like_local (tuple_of passed) (arguments size sides (placed size (at_slots head variables i)))
        (like_sym (arguments size sides (placed size (at_slots head variables i))) (tuple_of passed) (like_passed n wf)) (all_true (length sides)) n
        (change_of c) (all_local loc))
        fits there in
        subst (λ (s : StateView). (next : StateView) × ((sharing.back s args answer).value ≡ Some next) × Speaks sharing head variables next (then_also i f))
        (sym here.state)
        (state_with (length head) variables w, refl, speaks_after c same w (back_value size sides v value (shares_of answer)) e)

    some_value : (o : Option Shares) (w : Shares) → IfValue size o → o ≡ Some w → IsValue size w
    some_value o w p e = subst (IfValue size) e p

    -- an action that allows the substitution
    pub acts_refine : (action : Action) → acts_within (length args) action → domain.Allows action n passed f
        → (next : StateView) × ((sharing.refine st args action).value ≡ Some next) × Speaks sharing head variables next (then_also i f)
    acts_refine action m k =
        let there : acts_within (length passed) action = subst (λ z. acts_within z action) (sym (length-map args (under i))) m in
        let al = allowed_tuple passed n passed_below action f there k in
        let c = al.does in
        let same = al.same in
        let allowed = like_allows (tuple_of passed) (arguments size sides (placed size (at_slots head variables i)))
        (like_sym (arguments size sides (placed size (at_slots head variables i))) (tuple_of passed) (like_passed n wf))
        (tuple_of (map (under c) passed)) (arguments size sides (placed size (after c same)))
        (like_sym (arguments size sides (placed size (after c same))) (tuple_of (map (under c) passed)) (like_after c same))
        action n (change_of c) al.allowed in
        let (w, e, g) = refine_describes size n (later c same) sides v (placed size (at_slots head variables i)) (placed size (after c same)) (change_of c)
        here.value.slots sides_low wf (wf_after c same) here.describes (terms_moved size (at_slots head variables i) c) action allowed in
        let p = some_value (refine size sides action v) w (refine_value size sides v value action sides_low) e in
        subst (λ (s : StateView). (next : StateView) × ((sharing.refine s args action).value ≡ Some next)
        × Speaks sharing head variables next (then_also i f)) (sym here.state)
        (state_with (length head) variables w, some_state (length head) variables (refine size sides action v) w e, speaks_after c same w p g)

-- the answer of a clause describes the head's arguments
pub acts_exit : (head : List Term) (variables : ℕ) (st : StateView) (i : ℕ → Term) → IsHead (length head) variables head
    → Speaks sharing head variables st i → Describes (sharing.exit st head) (map (under i) head)
acts_exit head variables st i h d =
    let v = shares_of st.abs in
    let n = length head in
    let size = length head + variables in
    let k = known head variables st i d in
    let p = is_value size v k.value in
    let (m, b) = terms_bounded size (at_slots head variables i) in
    let wf = terms_wf size (at_slots head variables i) m b in
    let e = first_describes m n v (placed size (at_slots head variables i)) (omega (arith, k.value.slots))
    (subst (λ z. IsInstance z m (placed size (at_slots head variables i))) (sym k.value.slots) wf) k.describes in
    let g = like_describes (exit n v) (first_terms n (placed size (at_slots head variables i))) (placed n (term_at (map (under i) head)))
    (like_trans (first_terms n (placed size (at_slots head variables i))) (placed n (at_slots head variables i)) (placed n (term_at (map (under i) head)))
    (first_like n size (at_slots head variables i) (omega arith))
    (placed_like n (at_slots head variables i) (term_at (map (under i) head))
    (λ k l. before_at (map (under i) head) (map i (numbers 0 variables)) k (subst (λ z. k < z) (sym (length-map head (under i))) l)))) e in
    let q : IsValue (length (map (under i) head)) (exit n v) = subst (λ z. IsValue z (exit n v)) (sym (length-map head (under i))) (exit_value size [] v p n) in
    subst (λ (s : StateView). Describes (sharing.exit s head) (map (under i) head)) (sym k.state)
    (pattern_describes (exit n v) (map (under i) head) q
    (subst (λ z. meaning.Describes (exit n v) (placed z (term_at (map (under i) head)))) (sym (length-map head (under i))) g))
  where
    first_like : (n m : ℕ) (p : ℕ → Term) → n ≤ m → IsLike (first_terms n (placed m p)) (placed n p)
    first_like n m p l = record {
      occurs = λ w k. by_test (nat_lt k n) (λ t. let b = lower k n t in rw (t, lower_test k m (omega (arith, b, l))) refl) (λ t. rw t refl);
      variable = λ k y e. by_test (nat_lt k n) (λ t. let b = lower k n t in rw t (rw (t, lower_test k m (omega (arith, b, l))) at e))
          (λ t. let g = rw t at e in cc);
      variable_back = λ k y e. by_test (nat_lt k n) (λ t. let b = lower k n t in rw (t, lower_test k m (omega (arith, b, l))) (rw t at e))
          (λ t. let g = rw t at e in cc);
    }
