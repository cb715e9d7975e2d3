-- The order of terms cut at a depth, and that their operations keep it.
use Rattle.std.proofs.Common.{◌≡◌, ◌≢◌, inl, inr, ℕ, zero, suc, ◌<◌, ◌≤◌, arith, true, List, [], length, Option, Some, None, refl, sym, ap, ◌∙◌, subst}
use Rattle.plai_terms.specs.declared.term.Term.{Term}
use Rattle.plai_terms.specs.declared.prop.Prop.{Prop}
use Rattle.plai_terms.specs.declared.abs.Abs.{Abs}
use Rattle.plai_terms.specs.declared.abs.Abs.TheVariants.{Terms}
use Rattle.plai_terms.specs.declared.skeleton.Skeleton.{Skeleton}
use Rattle.plai_domain.specs.declared.action.Action.{Action}
use Rattle.plai_domain.specs.Plain.{StateView, UpTo}
use Rattle.plai_domain.specs.Instances.{all_below, acts_within}
use Rattle.plai_domain.specs.Outcomes.{SomeTooLarge}
use Rattle.plai_domain.specs.Laws.{IsLawful}
use Rattle.plai_depth_laws.specs.Moves.{push_all}
use Rattle.plai_depth_laws.specs.Operations.{enter_of, refine_of}
use Rattle.plai_depth_laws.specs.DepthK.{skeletons_of, LeqCut, Leq, Below, state_with, state_from, depth_k}
use Rattle.plai_depth_laws.proofs.Rank.{ranks_fall}
use Rattle.plai_depth_laws.proofs.States.{LeqCut-trans, LeqCut-antisym, LeqCut-refl, join_first, join_second, join_of_least, pulled_order, Grows, push_order}
use Rattle.plai_depth_laws.proofs.States.{enter_order, refine_order, value_describe}

-- at two lists of skeletons
pub leq_of : {k n : ℕ} {ss ts : List Skeleton} → LeqCut k n ss ts → Leq k n (Terms ss) (Terms ts)
leq_of h = record { first_is = refl; second_is = refl; order = h }

pub trans : {k n : ℕ} {a b c : Abs} → Leq k n a b → Leq k n b c → Leq k n a c
trans h g = record { first_is = h.first_is; second_is = g.second_is; order = LeqCut-trans h.order g.order }

pub antisym : {k n : ℕ} {a b : Abs} → Leq k n a b → Leq k n b a → a ≡ b
antisym {k} {n} {a} {b} h g = h.first_is ∙ ap Terms (LeqCut-antisym h.order g.order) ∙ sym h.second_is

pub left : {k n : ℕ} {a b : Abs} → Leq k n a b → Leq k n a a
left h = record { first_is = h.first_is; second_is = h.first_is; order = LeqCut-refl h.order.first }

pub right : {k n : ℕ} {a b : Abs} → Leq k n a b → Leq k n b b
right h = record { first_is = h.second_is; second_is = h.second_is; order = LeqCut-refl h.order.second }

module _ (k : ℕ) where
  above_first : {n : ℕ} {a b : Abs} → Leq k n a a → Leq k n b b → Leq k n a ((depth_k k).join a b)
  above_first h g = record { first_is = h.first_is; second_is = refl; order = join_first h.order.first g.order.first }

  above_second : {n : ℕ} {a b : Abs} → Leq k n a a → Leq k n b b → Leq k n b ((depth_k k).join a b)
  above_second h g = record { first_is = g.first_is; second_is = refl; order = join_second h.order.first g.order.first }

  least : {n : ℕ} {a b c : Abs} → Leq k n a c → Leq k n b c → Leq k n ((depth_k k).join a b) c
  least h g = record { first_is = refl; second_is = h.second_is; order = join_of_least h.order g.order }

  -- the rank falls with each strict growth
  falls : {n : ℕ} {a b : Abs} → Leq k n a b → a ≢ b → (depth_k k).rank b < (depth_k k).rank a
  falls {n} {a} {b} h apart = elim (ranks_fall h.order.under) [
    | inl e ↦ absurd (apart (h.first_is ∙ ap Terms e ∙ sym h.second_is))
    | inr less ↦ less
  ]

-- ---- a clause with n arguments and v variables

abbrev made : ℕ → ℕ → Abs → StateView
made n v a = record { arity = n; variables = v; abs = a }

same_parts : (n n' v v' : ℕ) (a a' : Abs) → n ≡ n' → v ≡ v' → a ≡ a' → made n v a ≡ made n' v' a'
same_parts n n' v v' a a' e f g = cc

-- a state of the clause is a list of skeletons
pub state_is : (n v : ℕ) (s : StateView) → s.arity ≡ n → s.variables ≡ v → s.abs ≡ Terms (skeletons_of s.abs) → s ≡ state_with n v (skeletons_of s.abs)
state_is n v s e f g = same_parts s.arity n s.variables v s.abs (Terms (skeletons_of s.abs)) e f g

module _ (k n v : ℕ) where
  -- states in order, at their lists of skeletons
  pub below_of : (ss ts : List Skeleton) → LeqCut k v ss ts → Below k n v (state_with n v ss) (state_with n v ts)
  below_of ss ts h = record { first_arity = refl; second_arity = refl; first_variables = refl; second_variables = refl; order = leq_of h }

  pub states_up_to : (o p : Option (List Skeleton)) → Grows k v o p → UpTo (Below k n v) (state_from n v o) (state_from n v p)
  states_up_to None p h = tt
  states_up_to (Some ss) None h = let (ts, e, g) = h ss refl in absurd cc
  states_up_to (Some ss) (Some ts) h = let (ts', e, g) = h ss refl in let is : ts' ≡ ts = cc in below_of ss ts (subst (LeqCut k v ss) is g)

  abbrev Mono : (StateView → StateView → Type 0) → Type 0
  Mono R = (ss ts : List Skeleton) → LeqCut k v ss ts → R (state_with n v ss) (state_with n v ts)

  at_states : (R : StateView → StateView → Type 0) → Mono R → (s t : StateView) → Below k n v s t → R s t
  at_states R h s t b =
      subst (λ x. R x t) (sym (state_is n v s b.first_arity b.first_variables b.order.first_is))
      (subst (λ x. R (state_with n v (skeletons_of s.abs)) x) (sym (state_is n v t b.second_arity b.second_variables b.order.second_is))
      (h (skeletons_of s.abs) (skeletons_of t.abs) b.order.order))

  pub call_monotone : (args : List Term) (s t : StateView) → Below k n v s t
      → Leq k (length args) ((depth_k k).call s args).value ((depth_k k).call t args).value
  call_monotone args s t b = leq_of (pulled_order k args b.order.order.under)

  pub back_monotone : (args : List Term) (s t : StateView) (a b : Abs) → all_below v args ≡ true → Below k n v s t → Leq k (length args) a b
      → UpTo (Below k n v) ((depth_k k).back s args a).value ((depth_k k).back t args b).value
  back_monotone args s t a b below h g = at_states (λ s t. UpTo (Below k n v) ((depth_k k).back s args a).value ((depth_k k).back t args b).value)
      (λ ss ts l. states_up_to (push_all args (skeletons_of a) ss) (push_all args (skeletons_of b) ts) (push_order k v args below g.order l)) s t h

  pub exit_monotone : (head : List Term) (s t : StateView) → length head ≡ n → Below k n v s t → Leq k n ((depth_k k).exit s head) ((depth_k k).exit t head)
  exit_monotone head s t e b = subst (λ m. Leq k m ((depth_k k).exit s head) ((depth_k k).exit t head)) e (leq_of (pulled_order k head b.order.order.under))

  pub enter_monotone : (head : List Term) (a b : Abs) → length head ≡ n → all_below v head ≡ true → Leq k n a b
      → UpTo (Below k n v) ((depth_k k).enter a head v).value ((depth_k k).enter b head v).value
  enter_monotone head a b e below h =
      subst (λ m. UpTo (Below k n v) (state_from m v (enter_of head v (skeletons_of a))) (state_from m v (enter_of head v (skeletons_of b)))) (sym e)
      (states_up_to (enter_of head v (skeletons_of a)) (enter_of head v (skeletons_of b))
      (enter_order k v head below (subst (λ m. LeqCut k m (skeletons_of a) (skeletons_of b)) (sym e) h.order)))

pub refine_monotone : (k n v : ℕ) (args : List Term) (x : Action) (s t : StateView) → all_below v args ≡ true → acts_within (length args) x
    → Below (suc k) n v s t
    → UpTo (Below (suc k) n v) ((depth_k (suc k)).refine s args x).value ((depth_k (suc k)).refine t args x).value
refine_monotone k n v args x s t below w =
    at_states (suc k) n v (λ s t. UpTo (Below (suc k) n v) ((depth_k (suc k)).refine s args x).value ((depth_k (suc k)).refine t args x).value)
    (λ ss ts h. states_up_to (suc k) n v (refine_of (suc k) args x ss) (refine_of (suc k) args x ts) (refine_order k v args below x w h)) s t

pub describe_value : (k n : ℕ) (pre : List Prop) → Leq (suc k) n ((depth_k (suc k)).describe n pre) ((depth_k (suc k)).describe n pre)
describe_value k n pre = leq_of (LeqCut-refl (value_describe k n pre))

-- no set is too large where none is formed
nothing_over : SomeTooLarge [] → ⊥
nothing_over over = cc

depth_k_lawful : (k : ℕ) → IsLawful (depth_k (suc k))
depth_k_lawful k =
    let d : ℕ = suc k in
    record {
      ordered = record {
        trans = λ n a b c. trans;
        antisym = λ n a b. antisym;
        left = λ n a b. left;
        right = λ n a b. right;
        join_first = λ n a b. above_first (suc k);
        join_second = λ n a b. above_second (suc k);
        join_least = λ n a b c. least (suc k);
        describe = λ n pre few w. describe_value k n pre;
      };
      monotone = record {
        enter = λ n v head a b h. enter_monotone (suc k) n v head a b h.arity h.below;
        call = λ n v args s t h. call_monotone (suc k) n v args s t;
        back = λ n v args s t a b h. back_monotone (suc k) n v args s t a b h.below;
        refine = λ n v args x s t h w. refine_monotone k n v args x s t h.below w;
        exit = λ n v head s t h. exit_monotone (suc k) n v head s t h.arity;
      };
      ranked = record { falls = λ n a b. falls (suc k) };
      forms_more = record {
        enter = λ n v head a b h le over. absurd (nothing_over over);
        call = λ n v args s t h le over. absurd (nothing_over over);
        back = λ n v args s t a b h le k over. absurd (nothing_over over);
        refine = λ n v args x s t h w le over. absurd (nothing_over over);
      };
      shaped = record { arity = λ n v s t h. h.first_arity; variables = λ n v s t h. h.first_variables };
    }

pub lawful_from_one : (k : ℕ) → 1 ≤ k → IsLawful (depth_k k)
lawful_from_one zero l = absurd (omega (arith, l))
lawful_from_one (suc k) l = depth_k_lawful k
