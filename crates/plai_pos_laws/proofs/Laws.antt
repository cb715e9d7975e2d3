-- The order of groundness, and that its operations keep it.
use Rattle.std.proofs.Common.{◌≡◌, ◌≢◌, ℕ, ◌+◌, ◌<◌, true, List, length, Option, Some, None, refl, sym, ap, ◌∙◌, arith, subst}
use Rattle.std.specs.List.{All}
use Rattle.plai_terms.specs.declared.term.Term.{Term}
use Rattle.plai_terms.specs.declared.prop.Prop.{Prop}
use Rattle.plai_terms.specs.declared.abs.Abs.{Abs}
use Rattle.plai_terms.specs.declared.abs.Abs.TheVariants.{Pos}
use Rattle.plai_domain.specs.declared.action.Action.{Action}
use Rattle.plai_domain.specs.Plain.{StateView, UpTo}
use Rattle.plai_domain.specs.Instances.{all_below, speaks_within, acts_within}
use Rattle.plai_pos_laws.specs.Assignments.{IsPositive, LeqModels, refine_of, join_of, rank_of}
use Rattle.plai_pos_laws.specs.Groundness.{masks_of, arity_of, Leq, Below, state_with, state_from, groundness}
use Rattle.plai_pos_laws.proofs.Order.{LeqModels-trans, LeqModels-antisym, LeqModels-refl, join_first, join_second, join_least, enter_order, call_order}
use Rattle.plai_pos_laws.proofs.Order.{back_order, exit_order}
use Rattle.plai_pos_laws.proofs.Properties.{value_describe}
use Rattle.plai_pos_laws.proofs.Refine.{refine_order}
use Rattle.plai_pos_laws.proofs.Rank.{rank_falls}

-- at two lists of masks
pub leq_of : {n : ℕ} {xs ys : List ℕ} → LeqModels n xs ys → Leq n (Pos n xs) (Pos n ys)
leq_of h = record { first_is = refl; second_is = refl; order = h }

pub value_of_positive : {n : ℕ} {xs : List ℕ} → IsPositive n xs → Leq n (Pos n xs) (Pos n xs)
value_of_positive x = leq_of (LeqModels-refl x)

pub trans : {n : ℕ} {a b c : Abs} → Leq n a b → Leq n b c → Leq n a c
trans h k = record { first_is = h.first_is; second_is = k.second_is; order = LeqModels-trans h.order k.order }

pub antisym : {n : ℕ} {a b : Abs} → Leq n a b → Leq n b a → a ≡ b
antisym {n} {a} {b} h k = h.first_is ∙ ap (Pos n) (LeqModels-antisym h.order k.order) ∙ sym h.second_is

pub left : {n : ℕ} {a b : Abs} → Leq n a b → Leq n a a
left h = record { first_is = h.first_is; second_is = h.first_is; order = LeqModels-refl h.order.first }

pub right : {n : ℕ} {a b : Abs} → Leq n a b → Leq n b b
right h = record { first_is = h.second_is; second_is = h.second_is; order = LeqModels-refl h.order.second }

pub arity_is : {n : ℕ} (a : Abs) → a ≡ Pos n (masks_of a) → arity_of a ≡ n
arity_is a e = ap arity_of e

above_join : {n : ℕ} (a b c : Abs) → a ≡ Pos n (masks_of a) → c ≡ Pos n (masks_of c) → LeqModels n (masks_of c) (join_of n (masks_of a) (masks_of b))
    → Leq n c (groundness.join a b)
above_join {n} a b c e f h = record {
  first_is = f;
  second_is = ap (λ k. Pos k (join_of (arity_of a) (masks_of a) (masks_of b))) (arity_is a e);
  order = subst (λ k. LeqModels n (masks_of c) (join_of k (masks_of a) (masks_of b))) (sym (arity_is a e)) h;
}

pub above_first : {n : ℕ} {a b : Abs} → Leq n a a → Leq n b b → Leq n a (groundness.join a b)
above_first {n} {a} {b} h k = above_join a b a h.first_is h.first_is (join_first h.order.first k.order.first)

pub above_second : {n : ℕ} {a b : Abs} → Leq n a a → Leq n b b → Leq n b (groundness.join a b)
above_second {n} {a} {b} h k = above_join a b b h.first_is k.first_is (join_second h.order.first k.order.first)

pub least : {n : ℕ} {a b c : Abs} → Leq n a c → Leq n b c → Leq n (groundness.join a b) c
least {n} {a} {b} {c} h k = record {
  first_is = ap (λ k. Pos k (join_of (arity_of a) (masks_of a) (masks_of b))) (arity_is a h.first_is);
  second_is = h.second_is;
  order = subst (λ k. LeqModels n (join_of k (masks_of a) (masks_of b)) (masks_of c)) (sym (arity_is a h.first_is)) (join_least h.order k.order);
}

-- the rank falls with each strict growth
pub falls : {n : ℕ} {a b : Abs} → Leq n a b → a ≢ b → groundness.rank b < groundness.rank a
falls {n} {a} {b} h apart =
    let less = rank_falls n (masks_of a) (masks_of b) h.order (λ e. apart (h.first_is ∙ ap (Pos n) e ∙ sym h.second_is)) in
    subst (λ k. groundness.rank b < rank_of k (masks_of a)) (sym (arity_is a h.first_is))
    (subst (λ k. rank_of k (masks_of b) < rank_of n (masks_of a)) (sym (arity_is b h.second_is)) less)

pub describe_value : (n : ℕ) (pre : List Prop) → All (speaks_within n) pre → Leq n (groundness.describe n pre) (groundness.describe n pre)
describe_value n pre w = value_of_positive (value_describe n pre w)

-- ---- a clause with n arguments and v variables

pub enter_monotone : (n v : ℕ) (head : List Term) (a b : Abs) → length head ≡ n → all_below v head ≡ true → Leq n a b
    → UpTo (Below n v) (groundness.enter a head v).value (groundness.enter b head v).value
enter_monotone n v head a b len below h =
    subst (λ k. Leq k a b → UpTo (Below k v) (groundness.enter a head v).value (groundness.enter b head v).value) len
    (λ l. record {
      first_arity = refl;
      second_arity = refl;
      first_variables = refl;
      second_variables = refl;
      order = leq_of (enter_order (length head) v head (masks_of a) (masks_of b) (omega arith) below l.order);
    }) h

abbrev made : ℕ → ℕ → Abs → StateView
made n v a = record { arity = n; variables = v; abs = a }

same_parts : (n n' v v' : ℕ) (a a' : Abs) → n ≡ n' → v ≡ v' → a ≡ a' → made n v a ≡ made n' v' a'
same_parts n n' v v' a a' e f g = cc

-- a state of the clause is a list of masks
pub state_is : (n v : ℕ) (s : StateView) → s.arity ≡ n → s.variables ≡ v → s.abs ≡ Pos (n + v) (masks_of s.abs) → s ≡ state_with n v (masks_of s.abs)
state_is n v s e f g = same_parts s.arity n s.variables v s.abs (Pos (n + v) (masks_of s.abs)) e f g

-- states in order, at their lists of masks
pub below_of : (n v : ℕ) (xs ys : List ℕ) → LeqModels (n + v) xs ys → Below n v (state_with n v xs) (state_with n v ys)
below_of n v xs ys h = record { first_arity = refl; second_arity = refl; first_variables = refl; second_variables = refl; order = leq_of h }

module _ (n v : ℕ) where
  abbrev Mono : (StateView → StateView → Type 0) → Type 0
  Mono R = (xs ys : List ℕ) → LeqModels (n + v) xs ys → R (state_with n v xs) (state_with n v ys)

  at_states : (R : StateView → StateView → Type 0) → Mono R → (s t : StateView) → Below n v s t → R s t
  at_states R h s t k =
      subst (λ x. R x t) (sym (state_is n v s k.first_arity k.first_variables k.order.first_is))
      (subst (λ x. R (state_with n v (masks_of s.abs)) x) (sym (state_is n v t k.second_arity k.second_variables k.order.second_is))
      (h (masks_of s.abs) (masks_of t.abs) k.order.order))

  pub call_monotone : (args : List Term) (s t : StateView) → all_below v args ≡ true → Below n v s t
      → Leq (length args) (groundness.call s args).value (groundness.call t args).value
  call_monotone args s t below = at_states (λ s t. Leq (length args) (groundness.call s args).value (groundness.call t args).value)
      (λ xs ys h. leq_of (call_order n v args xs ys below h)) s t

  pub back_monotone : (args : List Term) (s t : StateView) (a b : Abs) → all_below v args ≡ true → Below n v s t → Leq (length args) a b
      → UpTo (Below n v) (groundness.back s args a).value (groundness.back t args b).value
  back_monotone args s t a b below h k = at_states (λ s t. UpTo (Below n v) (groundness.back s args a).value (groundness.back t args b).value)
      (λ xs ys l. below_of n v _ _ (back_order n v args (masks_of a) (masks_of b) xs ys below k.order l)) s t h

  states_up_to : (o p : Option (List ℕ)) → UpTo (LeqModels (n + v)) o p → UpTo (Below n v) (state_from n v o) (state_from n v p)
  states_up_to None p h = tt
  states_up_to (Some xs) None h = absurd h
  states_up_to (Some xs) (Some ys) h = below_of n v xs ys h

  pub refine_monotone : (args : List Term) (x : Action) (s t : StateView) → all_below v args ≡ true → acts_within (length args) x → Below n v s t
      → UpTo (Below n v) (groundness.refine s args x).value (groundness.refine t args x).value
  refine_monotone args x s t below w = at_states (λ s t. UpTo (Below n v) (groundness.refine s args x).value (groundness.refine t args x).value)
      (λ xs ys h. states_up_to (refine_of n v args x xs) (refine_of n v args x ys) (refine_order n v args below x xs ys w h)) s t

  pub exit_monotone : (head : List Term) (s t : StateView) → Below n v s t → Leq n (groundness.exit s head) (groundness.exit t head)
  exit_monotone head s t = at_states (λ s t. Leq n (groundness.exit s head) (groundness.exit t head)) (λ xs ys h. leq_of (exit_order n v xs ys h)) s t
