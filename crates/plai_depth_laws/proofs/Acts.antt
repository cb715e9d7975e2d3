-- The operations on terms cut at a depth describe the instances that functions from variables to terms make.
use Rattle.std.proofs.Common.{◌≡◌, ℕ, zero, suc, ◌-◌, ◌≤◌, ℤ, true, List, [], ◌∷◌, length, map, replicate, Option, Some, refl, sym, ap, ◌∙◌, arith, subst}
use Rattle.std.specs.List.{All}
use Rattle.std.proofs.lemmas.List.{length-map}
use Rattle.plai_terms.specs.declared.term.Term.{Term, Var, Int}
use Rattle.plai_terms.specs.declared.prop.Prop.{Prop}
use Rattle.plai_terms.specs.declared.abs.Abs.{Abs}
use Rattle.plai_terms.specs.declared.abs.Abs.TheVariants.{Terms}
use Rattle.plai_terms.specs.declared.outcome.Outcome.TheVariants.{Unified}
use Rattle.plai_terms.specs.Term.{has_variables_below}
use Rattle.plai_terms.specs.Subst.{bound_to}
use Rattle.plai_terms.specs.Substitution.{under, then_also, raised}
use Rattle.plai_terms.specs.Unification.{Bindings, UnifiesTo}
use Rattle.plai_terms.proofs.Under.{under_same, under_under, under_under_all}
use Rattle.plai_terms.proofs.Outcomes.{unifier}
use Rattle.plai_terms.specs.declared.skeleton.Skeleton.{Skeleton, out-Skeleton, Any, Integer}
use Rattle.plai_terms.specs.declared.skeleton.Skeleton.TheOpen.{Skeleton-F}
use Rattle.plai_terms.specs.declared.skeleton.Skeleton.TheVariants.{outs-Any}
use Rattle.plai_domain.specs.declared.action.Action.{Action}
use Rattle.plai_domain.specs.declared.action.Action.TheVariants as action
use Rattle.plai_domain.specs.Plain.{StateView}
use Rattle.plai_domain.specs.Instances.{argument, all_below, acts_within, has_properties, speaks_within}
use Rattle.plai_domain.specs.Conditions.{IsHead}
use Rattle.plai_domain.specs.Allowed.{Allows}
use Rattle.plai_domain.specs.Soundness.{numbers, Speaks, TellsTruly, ActsTruly, IsSound}
use Rattle.plai_depth_laws.specs.Moves.{pull, push, push_all}
use Rattle.plai_depth_laws.specs.Order.{IsUnder, AreUnder}
use Rattle.plai_depth_laws.specs.Operations.{pulled, unify_of, refine_of}
use Rattle.plai_depth_laws.specs.DepthK.{skeletons_of, AreCut, Leq, Below, Describes, DescribesInstance, state_with, state_from, depth_k}
use Rattle.plai_depth_laws.proofs.Order.{IsUnder-trans, AreUnder-trans, over_any}
use Rattle.plai_depth_laws.proofs.Moves.{pull_keeps, pulls_keep, push_greatest, pushes_greatest}
use Rattle.plai_depth_laws.proofs.Closed.{cuts_up}
use Rattle.plai_depth_laws.proofs.Described.{shape, shape-Var, all_described_under, all_under_described}
use Rattle.plai_depth_laws.proofs.Instances.{shapes, length_numbers, shape_pulled, shapes_pulled, lowered, shapes_lowered, argument_is, variable_is}
use Rattle.plai_depth_laws.proofs.States.{LeqCut-refl, value_pulled, value_pushed, value_any, value_integer, value_unified, argument_below, one_below}
use Rattle.plai_depth_laws.proofs.States.{one_push, unified_parts, unify_greatest, free_some}
use Rattle.plai_depth_laws.proofs.Laws.{leq_of, right, below_of, describe_value}
use Rattle.plai_depth_laws.proofs.Properties.{shape_integer, describe_above, entails_sound, excludes_sound}

-- ---- described tuples

module _ (k : ℕ) where
  larger_describes : {n : ℕ} {a b : Abs} (ts : List Term) → Leq k n a b → Describes k a ts → Describes k b ts
  larger_describes {n} {a} {b} ts h d = record {
    is_value = subst (λ m. Leq k m b b) (sym h.order.first.count ∙ d.is_value.order.first.count) (right h);
    described = all_under_described ts (skeletons_of b) (AreUnder-trans (all_described_under d.described) h.order.under);
  }

  -- so many cut skeletons above the tuple's own
  value_describes : (ts : List Term) (ss : List Skeleton) → AreCut k (length ts) ss → AreUnder (map shape ts) ss → Describes k (Terms ss) ts
  value_describes ts ss c p = record { is_value = leq_of (LeqCut-refl c); described = all_under_described ts ss p }

describe_describes : (k : ℕ) (pre : List Prop) (ts : List Term) → All (speaks_within (length ts)) pre → has_properties ts pre
    → Describes (suc k) ((depth_k (suc k)).describe (length ts) pre) ts
describe_describes k pre ts w h = value_describes (suc k) ts _ (describe_value k (length ts) pre).order.first (describe_above ts pre w h)

depth_k_tells : (k : ℕ) → TellsTruly (depth_k (suc k))
depth_k_tells k = record {
  larger = λ n a b ts. larger_describes (suc k) ts;
  describe = describe_describes k;
  entails = λ a p ts w d. entails_sound (skeletons_of a) ts d.described p w;
  excludes = λ a p ts w d. excludes_sound (skeletons_of a) ts d.described p w;
}

-- ---- described instances

-- cut skeletons above the own ones of the variables' terms
instance_described : (k n v : ℕ) (hs : List Term) (i : ℕ → Term) (ss : List Skeleton) → length hs ≡ n → AreCut k v ss → AreUnder (shapes i v) ss
    → DescribesInstance k (state_with n v ss) hs (map i (numbers 0 v))
instance_described k n v hs i ss e c p = record {
  is_state = subst (λ m. Below k m (length (map i (numbers 0 v))) (state_with n v ss) (state_with n v ss)) (sym e)
      (subst (λ m. Below k n m (state_with n v ss) (state_with n v ss)) (sym (length-map (numbers 0 v) i ∙ length_numbers 0 v))
      (below_of k n v ss ss (LeqCut-refl c)));
  described = all_under_described (map i (numbers 0 v)) ss p;
}

all_shapes_any : (i : ℕ → Term) (vs : List ℕ) → AreUnder (map shape (map i vs)) (replicate (length vs) Any)
all_shapes_any i [] = AreUnder.none
all_shapes_any i (v ∷ vs) = AreUnder.more (IsUnder.any outs-Any) (all_shapes_any i vs)

acts_enter : (k : ℕ) (head : List Term) (variables : ℕ) → IsHead (length head) variables head
    → (call : Abs) (ts : List Term) (n : ℕ) (s : Bindings) → length head ≡ length ts → Describes k call ts
    → UnifiesTo (map (under (raised n)) head) ts (Unified s)
    → (st : StateView) × (((depth_k k).enter call head variables).value ≡ Some st) × Speaks (depth_k k) head variables st (then_also (raised n) (bound_to s))
acts_enter k head variables h call ts n s len d u =
    let i : ℕ → Term = then_also (raised n) (bound_to s) in
    let made : map (under i) head ≡ map (under (bound_to s)) ts =
    sym (under_under_all (raised n) (bound_to s) head) ∙ (unifier (map (under (raised n)) head) ts s (length-map head (under (raised n)) ∙ len) u).unifies in
    let same : map shape (map (under (bound_to s)) ts) ≡ map (pull (shapes i variables)) head =
    ap (map shape) (sym made) ∙ shapes_pulled i variables head h.below in
    let fits : AreUnder (map (pull (shapes i variables)) head) (skeletons_of call) =
    subst (λ l. AreUnder l (skeletons_of call)) same (AreUnder-trans (lowered (bound_to s) ts) (all_described_under d.described)) in
    let start : AreUnder (shapes i variables) (replicate variables Any) =
    subst (λ m. AreUnder (shapes i variables) (replicate m Any)) (length_numbers 0 variables) (all_shapes_any i (numbers 0 variables)) in
    let (ss, e, up) = pushes_greatest (shapes i variables) head (skeletons_of call) (replicate variables Any) start fits in
    let value : AreCut k (length head) (skeletons_of call) = subst (λ m. AreCut k m (skeletons_of call)) (sym len) d.is_value.order.first in (
      state_with (length head) variables ss,
      ap (state_from (length head) variables) e,
      instance_described k (length head) variables (map (under i) head) i ss (length-map head (under i))
          (value_pushed k variables head h.below value (value_any k variables) e) up,
    )

module _ (k : ℕ) (head : List Term) (variables : ℕ) (st : StateView) (i : ℕ → Term) (d : Speaks (depth_k k) head variables st i) where
  abbrev ss : List Skeleton
  ss = skeletons_of st.abs

  size : length (map i (numbers 0 variables)) ≡ variables
  size = length-map (numbers 0 variables) i ∙ length_numbers 0 variables

  are_cut : AreCut k variables ss
  are_cut = subst (λ m. AreCut k m ss) size d.is_state.order.order.first

  own : AreUnder (shapes i variables) ss
  own = all_described_under d.described

  -- a value of pulls describes the terms that the instance makes
  pulls_describe : (args : List Term) → all_below variables args ≡ true → Describes k (Terms (pulled k args ss)) (map (under i) args)
  pulls_describe args below =
      value_describes k (map (under i) args) (pulled k args ss)
      (subst (λ m. AreCut k m (pulled k args ss)) (sym (length-map args (under i))) (value_pulled k args ss))
      (subst (λ l. AreUnder l (pulled k args ss)) (sym (shapes_pulled i variables args below))
      (AreUnder-trans (pulls_keep (shapes i variables) ss own args) (cuts_up k (map (pull ss) args))))

  module _ (f : ℕ → Term) where
    abbrev j : ℕ → Term
    j = then_also i f

    still : AreUnder (shapes j variables) ss
    still = AreUnder-trans (shapes_lowered i f (numbers 0 variables)) own

    -- the state after, with cut skeletons above the own ones
    after : (o : Option (List Skeleton)) (r : List Skeleton) → o ≡ Some r → AreCut k variables r → AreUnder (shapes j variables) r
        → (next : StateView) × (state_from st.arity st.variables o ≡ Some next) × Speaks (depth_k k) head variables next j
    after o r e c p = (
      state_with st.arity variables r,
      ap (λ v. state_from st.arity v o) (d.is_state.first_variables ∙ size) ∙ ap (state_from st.arity variables) e,
      instance_described k st.arity variables (map (under j) head) j r
          (length-map head (under j) ∙ sym (length-map head (under i)) ∙ sym d.is_state.first_arity) c p,
    )

    module _ (args : List Term) (below : all_below variables args ≡ true) where
      acts_back : (answer : Abs) → Describes k answer (map (under f) (map (under i) args))
          → (next : StateView) × (((depth_k k).back st args answer).value ≡ Some next) × Speaks (depth_k k) head variables next j
      acts_back answer a =
          let same : map shape (map (under f) (map (under i) args)) ≡ map (pull (shapes j variables)) args =
          ap (map shape) (under_under_all i f args) ∙ shapes_pulled j variables args below in
          let fits : AreUnder (map (pull (shapes j variables)) args) (skeletons_of answer) =
          subst (λ l. AreUnder l (skeletons_of answer)) same (all_described_under a.described) in
          let value : AreCut k (length args) (skeletons_of answer) =
          subst (λ m. AreCut k m (skeletons_of answer)) (length-map (map (under i) args) (under f) ∙ length-map args (under i)) a.is_value.order.first in
          let (r, e, up) = pushes_greatest (shapes j variables) args (skeletons_of answer) ss still fits in
          after (push_all args (skeletons_of answer) ss) r e (value_pushed k variables args below value are_cut e) up

      there : (n : ℕ) → 1 ≤ n → n ≤ length args → has_variables_below variables (argument args n) ≡ true
      there n l m = argument_below variables args (n - 1) below (omega arith)

      -- an argument's own skeleton after the substitution is pulled out of the variables' own
      own_after : (n : ℕ) → 1 ≤ n → n ≤ length args → shape (under f (argument (map (under i) args) n)) ≡ pull (shapes j variables) (argument args n)
      own_after n l m =
          ap (λ t. shape (under f t)) (argument_is i args n l m) ∙ ap shape (under_under i f (argument args n))
          ∙ shape_pulled j variables (argument args n) (there n l m)

      both_one : (m n : ℕ) → 1 ≤ m → m ≤ length args → 1 ≤ n → n ≤ length args
          → under f (argument (map (under i) args) m) ≡ under f (argument (map (under i) args) n)
          → (next : StateView) × (state_from st.arity st.variables (unify_of k (argument args m) (argument args n) ss) ≡ Some next)
          × Speaks (depth_k k) head variables next j
      both_one m n a b c e same =
          let t : Term = argument args m in
          let u : Term = argument args n in
          let rs : List Skeleton = shapes j variables in
          let one : pull rs t ≡ pull rs u = sym (own_after m a b) ∙ ap shape same ∙ own_after n c e in
          let (r, p, g, is, up) = unify_greatest k t u rs ss still (pull rs t) (pull_keeps rs ss still t)
          (IsUnder-trans (IsUnder.same one) (pull_keeps rs ss still u))
          (IsUnder.same refl) (IsUnder.same (sym one)) in
          after (unify_of k t u ss) r g
          (value_unified k variables t u (there m a b) (there n c e) ss r are_cut.count (unified_parts k t u ss r g))
          (subst (AreUnder rs) (sym is) (AreUnder-trans up (cuts_up k p)))

      first_of : (s t : Term) → ◌≡◌ {A = List Term} (s ∷ []) (t ∷ []) → s ≡ t
      first_of s t e = cc

      unified_same : (m n : ℕ) (s : Bindings) → UnifiesTo (argument (map (under i) args) m ∷ []) (argument (map (under i) args) n ∷ []) (Unified s)
          → ((v : ℕ) → f v ≡ bound_to s v)
          → under f (argument (map (under i) args) m) ≡ under f (argument (map (under i) args) n)
      unified_same m n s u is =
          let x : Term = argument (map (under i) args) m in
          let y : Term = argument (map (under i) args) n in
          under_same f (bound_to s) x (λ v o. is v)
          ∙ first_of (under (bound_to s) x) (under (bound_to s) y) (unifier (x ∷ []) (y ∷ []) s refl u).unifies
          ∙ sym (under_same f (bound_to s) y (λ v o. is v))

      unchanged : (next : StateView) × (state_from st.arity st.variables (Some ss) ≡ Some next) × Speaks (depth_k k) head variables next j
      unchanged = after (Some ss) ss refl are_cut still

      free_after : (m w : ℕ) → 1 ≤ m → m ≤ length args → argument (map (under i) args) m ≡ Var w
          → (next : StateView) × (state_from st.arity st.variables (refine_of k args (action.Var m) ss) ≡ Some next) × Speaks (depth_k k) head variables next j
      free_after m w a b e =
          let t : Term = argument args m in
          let made : under i t ≡ Var w = sym (argument_is i args m a b) ∙ e in
          let free : out-Skeleton (pull (shapes i variables) t) ≡ Skeleton-F.Any =
          ap out-Skeleton (sym (shape_pulled i variables t (there m a b)) ∙ ap shape made) ∙ shape-Var w in
          after (refine_of k args (action.Var m) ss) ss
          (free_some t ss (variable_is i w t made) (over_any (pull_keeps (shapes i variables) ss own t) free)) are_cut still

-- `int` is pushed into an argument that is an integer afterwards
integer_after : (k : ℕ) (head : List Term) (variables : ℕ) (st : StateView) (i : ℕ → Term) (d : Speaks (depth_k (suc k)) head variables st i) (f : ℕ → Term)
    (args : List Term) (below : all_below variables args ≡ true) (m : ℕ) (z : ℤ) → 1 ≤ m → m ≤ length args → under f (argument (map (under i) args) m) ≡ Int z
    → (next : StateView) × (state_from st.arity st.variables (push (argument args m) (skeletons_of st.abs) Integer) ≡ Some next)
    × Speaks (depth_k (suc k)) head variables next (then_also i f)
integer_after k head variables st i d f args below m z a b e =
    let t : Term = argument args m in
    let ss : List Skeleton = skeletons_of st.abs in
    let rs : List Skeleton = shapes (then_also i f) variables in
    let w : has_variables_below variables t ≡ true = argument_below variables args (m - 1) below (omega arith) in
    let fits : IsUnder (pull rs t) Integer =
    subst (λ s. IsUnder s Integer) (own_after (suc k) head variables st i d f args below m a b)
    (shape_integer (under f (argument (map (under i) args) m)) (z, e)) in
    let (r, g, up) = push_greatest rs t ss Integer (still (suc k) head variables st i d f) fits in
    after (suc k) head variables st i d f (push t ss Integer) r g
    (value_pushed (suc k) variables (t ∷ []) (one_below variables t w) (value_integer k) (are_cut (suc k) head variables st i d) (one_push t Integer ss ∙ g)) up

module _ (k : ℕ) (head : List Term) (variables : ℕ) (st : StateView) (i : ℕ → Term) (d : Speaks (depth_k (suc k)) head variables st i)
    (args : List Term) (below : all_below variables args ≡ true) (n : ℕ) (f : ℕ → Term) where
  acts_refine : (x : Action) → acts_within (length args) x → Allows x n (map (under i) args) f
      → (next : StateView) × (((depth_k (suc k)).refine st args x).value ≡ Some next) × Speaks (depth_k (suc k)) head variables next (then_also i f)
  acts_refine action.Fail w h = absurd h
  acts_refine (action.Unify m o) w (s, u, is) =
      both_one (suc k) head variables st i d f args below m o w.0 w.1 w.2 w.3 (unified_same (suc k) head variables st i d f args below m o s u is)
  acts_refine (action.Same m o) w (e, empty) = both_one (suc k) head variables st i d f args below m o w.0 w.1 w.2 w.3 (ap (under f) e)
  acts_refine (action.Ground m) w h = unchanged (suc k) head variables st i d f args below
  acts_refine (action.BindInt m) w (l, (z, e)) = integer_after k head variables st i d f args below m z w.0 w.1 e
  acts_refine (action.Var m) w ((v, e), empty) = free_after (suc k) head variables st i d f args below m v w.0 w.1 e
  acts_refine (action.Nonvar m) w h = unchanged (suc k) head variables st i d f args below
  acts_refine (action.Havoc slots) w h = unchanged (suc k) head variables st i d f args below

depth_k_acts : (k : ℕ) → ActsTruly (depth_k (suc k))
depth_k_acts k = record {
  enter = λ head variables h call ts n s len d b u. acts_enter (suc k) head variables h call ts n s len d u;
  call = λ head variables st i args h a d. pulls_describe (suc k) head variables st i d args a.below;
  back = λ head variables st i args h a n f answer d from l b. acts_back (suc k) head variables st i d f args a.below answer b;
  refine = λ head variables st i args h a n f x w d from b. acts_refine k head variables st i d args a.below n f x w b;
  exit = λ head variables st i h d. pulls_describe (suc k) head variables st i d head h.below;
}

depth_k_sound : (k : ℕ) → IsSound (depth_k (suc k))
depth_k_sound k = record { tells_truly = depth_k_tells k; acts_truly = depth_k_acts k }

pub sound_from_one : (k : ℕ) → 1 ≤ k → IsSound (depth_k k)
sound_from_one zero l = absurd (omega (arith, l))
sound_from_one (suc k) l = depth_k_sound k
