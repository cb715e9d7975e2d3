-- Sharing and freeness meet the laws of an abstract domain.
use Rattle.std.proofs.Common.{◌≡◌, ◌≢◌, ℕ, ◌+◌, ◌<◌, true, All, List, length, Option, Some, None, refl, sym, ap, subst, ◌∙◌, arith}
use Rattle.std.proofs.lemmas.List.{length-map}
use Rattle.std.proofs.lemmas.List.Elements.{recursion_from_All}
use Rattle.plai_terms.specs.declared.term.Term.{Term}
use Rattle.plai_terms.specs.declared.prop.Prop.{Prop}
use Rattle.plai_terms.specs.declared.abs.Abs.{Abs}
use Rattle.plai_domain.specs.declared.action.Action.{Action}
use Rattle.plai_domain.specs.Plain.{StateView, UpTo}
use Rattle.plai_domain.specs.Instances.{all_below, speaks_within}
use Rattle.plai_domain.specs.Conditions.{IsHead}
use Rattle.plai_domain.specs.Outcomes.{SomeTooLarge}
use Rattle.plai_domain.specs.Laws.{IsLawful}
use Rattle.plai_share_laws.specs.Groups.{Has}
use Rattle.plai_share_laws.specs.Shares.{Shares, Side, slots_of, join}
use Rattle.plai_share_laws.specs.Sides.{side_of}
use Rattle.plai_share_laws.specs.Calls.{enter, call, refine}
use Rattle.plai_share_laws.specs.Properties.{describe}
use Rattle.plai_share_laws.specs.Rank.{rank}
use Rattle.plai_share_laws.specs.Sharing.{LeqShares, abs_of, shares_of, Leq, Below, state_with, state_from, sides_of, sharing}
use Rattle.plai_share_laws.proofs.Ordered.{IsValue}
use Rattle.plai_share_laws.proofs.Ordered as plain
use Rattle.plai_share_laws.proofs.Meaning.{AreBelow}
use Rattle.plai_share_laws.proofs.Order.{leq_antisym, join_value, join_left, join_right, join_least}
use Rattle.plai_share_laws.proofs.Rank.{rank_falls, describe_value}
use Rattle.plai_share_laws.proofs.Compose.{IfValue, enter_leq, enter_grows, extend_grows, call_leq, exit_leq, back_leq, back_grows, refine_leq, refine_grows}
use Rattle.plai_share_laws.proofs.Compose.{enter_value, call_value, back_value, exit_value, refine_value}
use Rattle.plai_share_laws.proofs.Lists.{in_map}
use Rattle.plai_share_laws.proofs.TermMoves.{side_below}
use Rattle.plai_share_laws.proofs.Canonical.{is_value, is_shares, in_order, leq_shares, shares_refl}
use Rattle.plai_share_laws.proofs.Clause.{argument_low, state_is, leq_self}
use Rattle.plai_share_laws.proofs.Large.{large_grows}
use Rattle.plai_share_laws.proofs.Tells.{every}

-- at two sets of groups
leq_of : (n : ℕ) (v w : Shares) → LeqShares n v w → Leq n (abs_of v) (abs_of w)
leq_of n v w h = record { first_is = refl; second_is = refl; order = h }

left : (n : ℕ) (a b : Abs) → Leq n a b → Leq n a a
left n a b h = record { first_is = h.first_is; second_is = h.first_is; order = shares_refl n (shares_of a) h.order.first }

right : (n : ℕ) (a b : Abs) → Leq n a b → Leq n b b
right n a b h = record { first_is = h.second_is; second_is = h.second_is; order = shares_refl n (shares_of b) h.order.second }

antisym : (n : ℕ) (a b : Abs) → Leq n a b → Leq n b a → a ≡ b
antisym n a b h k =
    h.first_is ∙ ap abs_of (leq_antisym n (shares_of a) (shares_of b) (in_order n (shares_of a) (shares_of b) h.order)
    (in_order n (shares_of b) (shares_of a) k.order))
    ∙ sym h.second_is

trans : (n : ℕ) (a b c : Abs) → Leq n a b → Leq n b c → Leq n a c
trans n a b c h k = record {
  first_is = h.first_is;
  second_is = k.second_is;
  order = record {
    first = h.order.first;
    second = k.order.second;
    groups = λ m t. k.order.groups m (h.order.groups m t);
    free = λ s t. h.order.free s (k.order.free s t);
  };
}

module _ (n : ℕ) (a b : Abs) where
  abbrev v : Shares
  v = shares_of a

  abbrev w : Shares
  w = shares_of b

  joined : Leq n a a → Leq n b b → IsValue n (join v w)
  joined h k = join_value n v w (is_value n v h.order.first) (is_value n w k.order.first)

  above_first : Leq n a a → Leq n b b → Leq n a (sharing.join a b)
  above_first h k = record {
    first_is = h.first_is;
    second_is = refl;
    order = leq_shares n v (join v w) (is_value n v h.order.first) (joined h k) (join_left n v w);
  }

  above_second : Leq n a a → Leq n b b → Leq n b (sharing.join a b)
  above_second h k = record {
    first_is = k.first_is;
    second_is = refl;
    order = leq_shares n w (join v w) (is_value n w k.order.first) (joined h k) (join_right n v w (h.order.first.slots ∙ sym k.order.first.slots));
  }

  least : (c : Abs) → Leq n a c → Leq n b c → Leq n (sharing.join a b) c
  least c h k = record {
    first_is = refl;
    second_is = h.second_is;
    order = leq_shares n (join v w) (shares_of c) (joined (left n a c h) (left n b c k)) (is_value n (shares_of c) h.order.second)
        (join_least n v w (shares_of c) (in_order n v (shares_of c) h.order).2 (in_order n w (shares_of c) k.order).2);
  }

  falls : Leq n a b → a ≢ b → sharing.rank b < sharing.rank a
  falls h apart =
      let less : rank n w < rank n v = rank_falls n v w (in_order n v w h.order) (λ e. apart (h.first_is ∙ ap abs_of e ∙ sym h.second_is)) in
      subst (λ k. rank w.slots w < rank k v) (sym h.order.first.slots) (subst (λ k. rank k w < rank n v) (sym h.order.second.slots) less)

described : (n : ℕ) (pre : List Prop) → All (speaks_within n) pre → Leq n (sharing.describe n pre) (sharing.describe n pre)
described n pre h = leq_self n (describe n pre)
    (is_shares n (describe n pre) (describe_value n pre (every (speaks_within n) pre (recursion_from_All (speaks_within n) pre h))))

-- a clause's sides are below its slots
pub sides_below : (n v : ℕ) (args : List Term) → all_below v args ≡ true → AreBelow (n + v) (sides_of n args)
sides_below n v args e s i k h =
    let (t, j, d) = in_map (side_of n) args s i in
    side_below n (n + v) (λ x. t) t (λ x o. let l = argument_low v args e t j x o in omega (arith, l)) k (subst (λ (z : Side). Has (slots_of z) k) (sym d) h)

-- states in order, at their sets
below_of : (n v : ℕ) (x y : Shares) → LeqShares (n + v) x y → Below n v (state_with n v x) (state_with n v y)
below_of n v x y h = record { first_arity = refl; second_arity = refl; first_variables = refl; second_variables = refl; order = leq_of (n + v) x y h }

module _ (n v : ℕ) where
  abbrev size : ℕ
  size = n + v

  at_states : (R : StateView → StateView → Type 0) → ((x y : Shares) → LeqShares size x y → R (state_with n v x) (state_with n v y))
      → (s t : StateView) → Below n v s t → R s t
  at_states R h s t k =
      subst (λ x. R x t) (sym (state_is n v s k.first_arity k.first_variables k.order.first_is))
      (subst (λ x. R (state_with n v (shares_of s.abs)) x) (sym (state_is n v t k.second_arity k.second_variables k.order.second_is))
      (h (shares_of s.abs) (shares_of t.abs) k.order.order))

  -- where both are values
  ordered : (m : ℕ) (x y : Shares) → IsValue m x → IsValue m y → plain.Leq x y → LeqShares m x y
  ordered m x y p q h = leq_shares m x y p q h

  as_many : (args : List Term) → length (sides_of n args) ≡ length args
  as_many args = length-map args (side_of n)

  call_monotone : (args : List Term) (s t : StateView) → Below n v s t → Leq (length args) (sharing.call s args).value (sharing.call t args).value
  call_monotone args = at_states (λ s t. Leq (length args) (sharing.call s args).value (sharing.call t args).value)
      (λ x y h.
      let (p, q, l) = in_order size x y h in
      subst (λ k. Leq k (abs_of (call size (sides_of n args) x)) (abs_of (call size (sides_of n args) y))) (as_many args)
      (leq_of (length (sides_of n args)) _ _ (ordered (length (sides_of n args)) _ _ (call_value size (sides_of n args) x p)
      (call_value size (sides_of n args) y q)
      (call_leq size (sides_of n args) x y l))))

  back_monotone : (args : List Term) (s t : StateView) (a b : Abs) → Below n v s t → Leq (length args) a b
      → UpTo (Below n v) (sharing.back s args a).value (sharing.back t args b).value
  back_monotone args s t a b h k = at_states (λ s t. UpTo (Below n v) (sharing.back s args a).value (sharing.back t args b).value)
      (λ x y h.
      let (p, q, l) = in_order size x y h in
      let (f, g, m) = in_order (length args) (shares_of a) (shares_of b) k.order in
      below_of n v _ _ (ordered size _ _ (back_value size (sides_of n args) x p (shares_of a)) (back_value size (sides_of n args) y q (shares_of b))
      (back_leq size (sides_of n args) x y l (shares_of a) (shares_of b) m))) s t h

  states_up_to : (o p : Option Shares) → IfValue size o → IfValue size p → plain.UpTo o p → UpTo (Below n v) (state_from n v o) (state_from n v p)
  states_up_to None p f g h = tt
  states_up_to (Some x) None f g h = absurd h
  states_up_to (Some x) (Some y) f g h = below_of n v x y (ordered size x y f g h)

  refine_monotone : (args : List Term) (action : Action) (s t : StateView) → all_below v args ≡ true → Below n v s t
      → UpTo (Below n v) (sharing.refine s args action).value (sharing.refine t args action).value
  refine_monotone args action s t e h = at_states (λ s t. UpTo (Below n v) (sharing.refine s args action).value (sharing.refine t args action).value)
      (λ x y h.
      let (p, q, l) = in_order size x y h in
      let low = sides_below n v args e in
      states_up_to (refine size (sides_of n args) action x) (refine size (sides_of n args) action y)
      (refine_value size (sides_of n args) x p action low) (refine_value size (sides_of n args) y q action low)
      (refine_leq size (sides_of n args) x y l action)) s t h

  exit_monotone : (head : List Term) (s t : StateView) → Below n v s t → Leq n (sharing.exit s head) (sharing.exit t head)
  exit_monotone head = at_states (λ s t. Leq n (sharing.exit s head) (sharing.exit t head))
      (λ x y h.
      let (p, q, l) = in_order size x y h in
      leq_of n _ _ (ordered n _ _ (exit_value size (sides_of n head) x p n) (exit_value size (sides_of n head) y q n) (exit_leq n (sides_of n head) x y l)))

  call_larger : (args : List Term) (s t : StateView) → Below n v s t → SomeTooLarge (sharing.call s args).sizes → SomeTooLarge (sharing.call t args).sizes
  call_larger args = at_states (λ s t. SomeTooLarge (sharing.call s args).sizes → SomeTooLarge (sharing.call t args).sizes)
      (λ x y h. large_grows _ _ (extend_grows size (sides_of n args) x y (in_order size x y h).2))

  back_larger : (args : List Term) (s t : StateView) (a b : Abs) → Below n v s t → Leq (length args) a b
      → SomeTooLarge (sharing.back s args a).sizes → SomeTooLarge (sharing.back t args b).sizes
  back_larger args s t a b h k = at_states (λ s t. SomeTooLarge (sharing.back s args a).sizes → SomeTooLarge (sharing.back t args b).sizes)
      (λ x y h. large_grows _ _
      (back_grows size (sides_of n args) x y (in_order size x y h).2 (shares_of a) (shares_of b)
      (in_order (length args) (shares_of a) (shares_of b) k.order).2)) s t h

  refine_larger : (args : List Term) (action : Action) (s t : StateView) → Below n v s t
      → SomeTooLarge (sharing.refine s args action).sizes → SomeTooLarge (sharing.refine t args action).sizes
  refine_larger args action = at_states (λ s t. SomeTooLarge (sharing.refine s args action).sizes → SomeTooLarge (sharing.refine t args action).sizes)
      (λ x y h. large_grows _ _ (refine_grows size (sides_of n args) x y (in_order size x y h).2 action))

  module _ (head : List Term) (a b : Abs) (h : IsHead n v head) (k : Leq n a b) where
    here : LeqShares (length head) (shares_of a) (shares_of b)
    here = subst (λ m. LeqShares m (shares_of a) (shares_of b)) (sym h.arity) k.order

    enter_monotone : UpTo (Below n v) (sharing.enter a head v).value (sharing.enter b head v).value
    enter_monotone =
        let (p, q, l) = in_order (length head) (shares_of a) (shares_of b) here in
        let m = length head in
        subst (λ m. Below m v (state_with (length head) v (enter v (sides_of (length head) head) (shares_of a)))
        (state_with (length head) v (enter v (sides_of (length head) head) (shares_of b)))) h.arity
        (below_of m v _ _ (leq_shares (m + v) _ _ (enter_value m (sides_of m head) (shares_of a) p v) (enter_value m (sides_of m head) (shares_of b) q v)
        (enter_leq m (sides_of m head) (shares_of a) (shares_of b) l v)))

    enter_larger : SomeTooLarge (sharing.enter a head v).sizes → SomeTooLarge (sharing.enter b head v).sizes
    enter_larger = large_grows _ _ (enter_grows (length head) (sides_of (length head) head) (shares_of a) (shares_of b)
        (in_order (length head) (shares_of a) (shares_of b) here).2 v)

pub sharing_lawful : IsLawful sharing
sharing_lawful =
    record {
      ordered = record {
        trans = trans;
        antisym = antisym;
        left = left;
        right = right;
        join_first = above_first;
        join_second = above_second;
        join_least = λ n a b c. least n a b c;
        describe = λ n pre few. described n pre;
      };
      monotone = record {
        enter = λ n v head a b h k. enter_monotone n v head a b h k;
        call = λ n v args s t h. call_monotone n v args s t;
        back = λ n v args s t a b h. back_monotone n v args s t a b;
        refine = λ n v args action s t h w. refine_monotone n v args action s t h.below;
        exit = λ n v head s t h. exit_monotone n v head s t;
      };
      ranked = record { falls = falls };
      forms_more = record {
        enter = λ n v head a b h k. enter_larger n v head a b h k;
        call = λ n v args s t h. call_larger n v args s t;
        back = λ n v args s t a b h. back_larger n v args s t a b;
        refine = λ n v args action s t h w. refine_larger n v args action s t;
      };
      shaped = record { arity = λ n v s t h. h.first_arity; variables = λ n v s t h. h.first_variables };
    }
