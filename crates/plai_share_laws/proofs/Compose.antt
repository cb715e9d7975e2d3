-- enter, call, back, refine and exit: monotone, what they form grows, values to values.
use Rattle.std.proofs.Common.{◌≡◌, ℕ, zero, suc, ◌+◌, ◌<◌, List, [], ◌∷◌, ◌++◌, map, length, Option, Some, None, refl, sym, subst, inl, inr, arith, ◌-◌}
use Rattle.plai_base.specs.Mask.{has_slot, mask_of, all_true}
use Rattle.plai_domain.specs.declared.action.Action.{Action}
use Rattle.plai_domain.specs.declared.action.Action.TheVariants as action
use Rattle.plai_share_laws.specs.Groups.{Has, IsPart}
use Rattle.plai_share_laws.specs.Shares.{Shares, Side, Slot, Other, slots_of, unify, widen, widen_by, answered, any_meets, var_at, nonvar_at}
use Rattle.plai_share_laws.proofs.Ordered.{Leq, UpTo, IsValue, AreCovered}
use Rattle.plai_share_laws.specs.Calls.{unify_each, each_formed, enter, extend, call, raise, back, exit, side_at, acted, first_of_some, refine, enter_formed}
use Rattle.plai_share_laws.specs.Calls.{extend_formed, back_formed, acted_formed, refine_formed}
use Rattle.plai_share_laws.proofs.Meaning.{AreBelow}
use Rattle.plai_share_laws.proofs.Masks.{by_test, has_of}
use Rattle.plai_share_laws.proofs.Lists.{by_either, in_append, append_left, append_right}
use Rattle.plai_share_laws.proofs.Sets.{map_within}
use Rattle.plai_share_laws.proofs.Monotone.{unify_leq, unify_grows, answered_leq, answered_grows, havocked_leq, havocked_grows, grounded_leq, same_leq}
use Rattle.plai_share_laws.proofs.Monotone.{var_leq, nonvar_leq}
use Rattle.plai_share_laws.proofs.Parts.{widen_leq, first_leq, last_leq}
use Rattle.plai_share_laws.proofs.Values.{unify_value, answered_value, havocked_value, grounded_value, same_value, freed_value, widen_value, first_value}
use Rattle.plai_share_laws.proofs.Values.{last_value}
use Rattle.plai_share_laws.proofs.Back.{raise_shift}

pub covered_append : (xs ys us vs : List (List ℕ)) → AreCovered xs us → AreCovered ys vs → AreCovered (xs ++ ys) (us ++ vs)
covered_append xs ys us vs f g x i = by_either (in_append xs ys x i)
    (λ j. let (y, k, h) = f x j in (y, append_left us vs y k, h))
    (λ j. let (y, k, h) = g x j in (y, append_right us vs y k, h))

pub each_leq : (ts : List Side) (k : ℕ) (v w : Shares) → Leq v w → Leq (unify_each k ts v) (unify_each k ts w)
each_leq [] k v w le = le
each_leq (t ∷ ts) k v w le = each_leq ts (suc k) (unify (Slot k) t v) (unify (Slot k) t w) (unify_leq (Slot k) t v w le)

pub each_grows : (ts : List Side) (k : ℕ) (v w : Shares) → Leq v w → AreCovered (each_formed k ts v) (each_formed k ts w)
each_grows [] k v w le = λ x i. absurd i
each_grows (t ∷ ts) k v w le = covered_append _ _ _ _ (unify_grows (Slot k) t v w le)
    (each_grows ts (suc k) (unify (Slot k) t v) (unify (Slot k) t w) (unify_leq (Slot k) t v w le))

pub widen_by_leq : (m : ℕ) (v w : Shares) → Leq v w → Leq (widen_by m v) (widen_by m w)
widen_by_leq zero v w le = le
widen_by_leq (suc m) v w le = widen_by_leq m (widen v) (widen w) (widen_leq v w le)

raise_part : (n a b : ℕ) → IsPart a b → IsPart (raise n a) (raise n b)
raise_part n a b f l h =
    let (r, e, p) = (raise_shift n a).down l h in
    subst (λ z. Has (raise n b) z) (sym e) ((raise_shift n b).up r (f r p))

first_up : (n : ℕ) (o p : Option Shares) → UpTo o p → UpTo (first_of_some n o) (first_of_some n p)
first_up n None p h = tt
first_up n (Some v) None h = h
first_up n (Some v) (Some w) h = first_leq n v w h

module _ (n : ℕ) (args : List Side) (v w : Shares) (le : Leq v w) where
  pub enter_leq : (variables : ℕ) → Leq (enter variables args v) (enter variables args w)
  enter_leq variables = each_leq args 0 _ _ (widen_by_leq variables v w le)

  pub enter_grows : (variables : ℕ) → AreCovered (enter_formed variables args v) (enter_formed variables args w)
  enter_grows variables = each_grows args 0 _ _ (widen_by_leq variables v w le)

  pub extend_leq : Leq (extend n args v) (extend n args w)
  extend_leq = each_leq args n _ _ (widen_by_leq (length args) v w le)

  pub extend_grows : AreCovered (extend_formed n args v) (extend_formed n args w)
  extend_grows = each_grows args n _ _ (widen_by_leq (length args) v w le)

  pub call_leq : Leq (call n args v) (call n args w)
  call_leq = last_leq n _ _ extend_leq (length args)

  pub exit_leq : Leq (exit n v) (exit n w)
  exit_leq = first_leq n v w le

  pub back_leq : (answer larger : Shares) → Leq answer larger → Leq (back n args v answer) (back n args w larger)
  back_leq answer larger less = first_leq n _ _
      (answered_leq (raise n (all_true (length args))) (map (raise n) answer.groups) (map (raise n) larger.groups) (raise n answer.free) (raise n larger.free)
      (map_within (raise n) answer.groups larger.groups less.groups) (raise_part n larger.free answer.free less.free)
      (extend n args v) (extend n args w) extend_leq)

  pub back_grows : (answer larger : Shares) → Leq answer larger → AreCovered (back_formed n args v answer) (back_formed n args w larger)
  back_grows answer larger less = covered_append _ _ _ _ extend_grows
      (answered_grows (raise n (all_true (length args))) (map (raise n) answer.groups) (map (raise n) larger.groups) (raise n answer.free) (raise n larger.free)
      (map_within (raise n) answer.groups larger.groups less.groups) (raise_part n larger.free answer.free less.free)
      (extend n args v) (extend n args w) extend_leq)

  pub acted_leq : (action : Action) (v w : Shares) → Leq v w → UpTo (acted n args action v) (acted n args action w)
  acted_leq action.Fail v w le = tt
  acted_leq (action.Unify i j) v w le = unify_leq (Slot (n + (i - 1))) (Slot (n + (j - 1))) v w le
  acted_leq (action.Same i j) v w le = same_leq (mask_of (n + (i - 1))) v w le (mask_of (n + (j - 1)))
  acted_leq (action.Ground i) v w le = grounded_leq (mask_of (n + (i - 1))) v w le
  acted_leq (action.BindInt i) v w le = grounded_leq (mask_of (n + (i - 1))) v w le
  acted_leq (action.Var i) v w le = var_leq (side_at args (i - 1)) v w le
  acted_leq (action.Nonvar i) v w le = nonvar_leq (side_at args (i - 1)) v w le
  acted_leq (action.Havoc set) v w le = havocked_leq (raise n set) v w le

  pub acted_grows : (action : Action) (v w : Shares) → Leq v w → AreCovered (acted_formed n action v) (acted_formed n action w)
  acted_grows action.Fail v w le = λ x i. absurd i
  acted_grows (action.Unify i j) v w le = unify_grows (Slot (n + (i - 1))) (Slot (n + (j - 1))) v w le
  acted_grows (action.Same i j) v w le = λ x m. absurd m
  acted_grows (action.Ground i) v w le = λ x m. absurd m
  acted_grows (action.BindInt i) v w le = λ x m. absurd m
  acted_grows (action.Var i) v w le = λ x m. absurd m
  acted_grows (action.Nonvar i) v w le = λ x m. absurd m
  acted_grows (action.Havoc set) v w le = havocked_grows (raise n set) v w le

  pub refine_leq : (action : Action) → UpTo (refine n args action v) (refine n args action w)
  refine_leq action = first_up n (acted n args action (extend n args v)) (acted n args action (extend n args w))
      (acted_leq action (extend n args v) (extend n args w) extend_leq)

  pub refine_grows : (action : Action) → AreCovered (refine_formed n args action v) (refine_formed n args action w)
  refine_grows action = covered_append _ _ _ _ extend_grows (acted_grows action (extend n args v) (extend n args w) extend_leq)

-- values to values
each_value : (ts : List Side) (k n : ℕ) (v : Shares) → IsValue n v → IsValue n (unify_each k ts v)
each_value [] k n v p = p
each_value (t ∷ ts) k n v p = each_value ts (suc k) n (unify (Slot k) t v) (unify_value n v p (Slot k) t)

widen_by_value : (m n : ℕ) (v : Shares) → IsValue n v → IsValue (n + m) (widen_by m v)
widen_by_value zero n v p = subst (λ z. IsValue z v) (let e : n ≡ n + 0 = omega arith in e) p
widen_by_value (suc m) n v p = subst (λ z. IsValue z (widen_by m (widen v))) (let e : suc n + m ≡ n + suc m = omega arith in e)
    (widen_by_value m (suc n) (widen v) (widen_value n v p))

-- a value, where there is one
abbrev pub IfValue : ℕ → Option Shares → Type 0
IfValue n None = Unit {0}
IfValue n (Some v) = IsValue n v

module _ (n : ℕ) (args : List Side) (v : Shares) (p : IsValue n v) where
  pub enter_value : (variables : ℕ) → IsValue (n + variables) (enter variables args v)
  enter_value variables = each_value args 0 (n + variables) (widen_by variables v) (widen_by_value variables n v p)

  pub extend_value : IsValue (n + length args) (extend n args v)
  extend_value = each_value args n (n + length args) (widen_by (length args) v) (widen_by_value (length args) n v p)

  pub call_value : IsValue (length args) (call n args v)
  call_value = last_value (n + length args) (extend n args v) extend_value n (length args) refl

  pub back_value : (answer : Shares) → IsValue n (back n args v answer)
  back_value answer = first_value (n + length args)
      (answered (raise n (all_true (length args))) (map (raise n) answer.groups) (raise n answer.free) (extend n args v))
      (answered_value (n + length args) (extend n args v) extend_value (raise n (all_true (length args))) (map (raise n) answer.groups) (raise n answer.free)) n

  pub exit_value : (arity : ℕ) → IsValue arity (exit arity v)
  exit_value arity = first_value n v p arity

  side_low : (args : List Side) (r x : ℕ) → AreBelow n args → side_at args r ≡ Slot x → x < n
  side_low [] r x low e = cc
  side_low (t ∷ ts) zero x low e = low t (inl refl) x (subst (λ (z : Side). Has (slots_of z) x) (sym e) (has_of x))
  side_low (t ∷ ts) (suc r) x low e = side_low ts r x (λ y m. low y (inr m)) e

  pub refine_value : (action : Action) → AreBelow n args → IfValue n (refine n args action v)
  refine_value a low = first_if (acted n args a (extend n args v)) (done a)
    where
      first_if : (o : Option Shares) → IfValue (n + length args) o → IfValue n (first_of_some n o)
      first_if None h = tt
      first_if (Some w) h = first_value (n + length args) w h n

      at_var : (t : Side) → ((x : ℕ) → t ≡ Slot x → x < n) → IfValue (n + length args) (var_at t (extend n args v))
      at_var (Other set) f = tt
      at_var (Slot x) f = by_test (any_meets (mask_of x) (extend n args v).groups)
          (λ t. rw t (freed_value (n + length args) (extend n args v) extend_value x (let l = f x refl in omega arith))) (λ t. rw t tt)

      at_nonvar : (t : Side) → IfValue (n + length args) (nonvar_at t (extend n args v))
      at_nonvar (Other set) = extend_value
      at_nonvar (Slot x) = by_test (has_slot (extend n args v).free x) (λ t. rw t tt) (λ t. rw t extend_value)

      done : (action : Action) → IfValue (n + length args) (acted n args action (extend n args v))
      done action.Fail = tt
      done (action.Unify i j) = unify_value (n + length args) (extend n args v) extend_value (Slot (n + (i - 1))) (Slot (n + (j - 1)))
      done (action.Same i j) = same_value (n + length args) (extend n args v) extend_value (mask_of (n + (i - 1))) (mask_of (n + (j - 1)))
      done (action.Ground i) = grounded_value (n + length args) (extend n args v) extend_value (mask_of (n + (i - 1)))
      done (action.BindInt i) = grounded_value (n + length args) (extend n args v) extend_value (mask_of (n + (i - 1)))
      done (action.Var i) = at_var (side_at args (i - 1)) (λ x e. side_low args (i - 1) x low e)
      done (action.Nonvar i) = at_nonvar (side_at args (i - 1))
      done (action.Havoc set) = havocked_value (n + length args) (extend n args v) extend_value (raise n set)
