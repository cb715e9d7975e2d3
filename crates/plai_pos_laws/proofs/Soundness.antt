-- The operations of groundness describe what happens to the terms that their arguments describe.
use Rattle.std.proofs.Common.{◌≡◌, ℕ, ◌+◌, true, List, length, map, Some, refl, sym, ap, ◌∙◌, arith, subst}
use Rattle.std.specs.List.{All}
use Rattle.std.proofs.lemmas.List.{length-map}
use Rattle.plai_terms.specs.declared.term.Term.{Term}
use Rattle.plai_terms.specs.declared.prop.Prop.{Prop}
use Rattle.plai_terms.specs.declared.abs.Abs.{Abs}
use Rattle.plai_terms.specs.Subst.{apply_of}
use Rattle.plai_domain.specs.declared.action.Action.{Action}
use Rattle.plai_domain.specs.Plain.{StateView, UpTo}
use Rattle.plai_domain.specs.Instances.{all_below, has_property, has_properties, speaks_within, instance_of, acts_within, allows_at}
use Rattle.plai_pos_laws.specs.Assignments.{IsPositive, LeqModels, enter_of, back_of}
use Rattle.plai_pos_laws.specs.Described.{describes, describes_instance}
use Rattle.plai_pos_laws.specs.Groundness.{masks_of, Leq, Below, Describes, DescribesInstance, state_with, state_from, groundness}
use Rattle.plai_pos_laws.proofs.Sound.{describes_above, enter_sound, call_sound, back_sound, exit_sound}
use Rattle.plai_pos_laws.proofs.Properties.{describe_sound, entails_sound, excludes_sound}
use Rattle.plai_pos_laws.proofs.Actions.{refine_sound}
use Rattle.plai_pos_laws.proofs.Order.{LeqModels-refl, value_enter, back_order}
use Rattle.plai_pos_laws.proofs.Refine.{refine_order}
use Rattle.plai_pos_laws.proofs.Laws.{arity_is, right, describe_value, state_is, below_of, call_monotone, exit_monotone}

-- a tuple that a value describes is described by each value above it
pub larger_describes : {n : ℕ} {a b : Abs} (terms : List Term) → Leq n a b → Describes a terms → Describes b terms
larger_describes {n} {a} {b} terms h d =
    let same : n ≡ length terms = sym (arity_is a h.first_is) ∙ arity_is a d.is_value.first_is in
    record {
      is_value = subst (λ k. Leq k b b) same (right h);
      described = describes_above (masks_of a) (masks_of b) terms h.order.within d.described;
    }

-- each tuple with the properties is described by their pattern
pub describe_describes : (pre : List Prop) (terms : List Term) → All (speaks_within (length terms)) pre → has_properties terms pre
    → Describes (groundness.describe (length terms) pre) terms
describe_describes pre terms w h = record { is_value = describe_value (length terms) pre w; described = describe_sound terms pre w h }

-- what is entailed, each described tuple has
pub entailed_holds : (a : Abs) (p : Prop) (terms : List Term) → speaks_within (length terms) p → Describes a terms → groundness.entails a p ≡ true
    → has_property terms p
entailed_holds a p terms w d e = entails_sound terms (masks_of a) p w d.described e

-- what is excluded, no described tuple has
pub excluded_fails : (a : Abs) (p : Prop) (terms : List Term) → speaks_within (length terms) p → Describes a terms → groundness.excludes a p ≡ true
    → has_property terms p → ⊥
excluded_fails a p terms w d e h = excludes_sound terms (masks_of a) p w d.described e h

-- ---- a clause whose head has the arguments hs, and whose variables are the terms ts

-- the state with these assignments describes the instance, where they are in a positive set
state_describes : (n v : ℕ) (xs : List ℕ) (hs ts : List Term) → n ≡ length hs → v ≡ length ts → LeqModels (n + v) xs xs → describes_instance xs hs ts
    → DescribesInstance (state_with n v xs) hs ts
state_describes n v xs hs ts e f h d = record {
  is_state = subst (λ k. Below k (length ts) (state_with n v xs) (state_with n v xs)) e
      (subst (λ k. Below n k (state_with n v xs) (state_with n v xs)) f (below_of n v xs xs h));
  described = d;
}

-- the substitution makes the goal's arguments equal to the head's, whose variables are then ts
pub enter_describes : (call : Abs) (head goal ts : List Term) (r : List (ℕ × Term)) → length head ≡ length goal → all_below (length ts) head ≡ true
    → map (instance_of ts) head ≡ map (apply_of r) goal → Describes call goal
    → (s : StateView) × ((groundness.enter call head (length ts)).value ≡ Some s) × DescribesInstance s (map (apply_of r) goal) ts
enter_describes call head goal ts r len below same d =
    let size : length head ≡ length (map (apply_of r) goal) = len ∙ sym (length-map goal (apply_of r)) in
    let positive : IsPositive (length head) (masks_of call) = subst (λ k. IsPositive k (masks_of call)) (sym len) d.is_value.order.first in
    let entered = enter_sound goal head ts r (masks_of call) len below same d.described in (
      state_with (length head) (length ts) (enter_of (length head) (length ts) head (masks_of call)),
      refl,
      state_describes (length head) (length ts) (enter_of (length head) (length ts) head (masks_of call)) (map (apply_of r) goal) ts size refl
          (LeqModels-refl (value_enter (length head) (length ts) head (masks_of call) (omega arith) below positive))
          (subst (λ k. describes_instance (enter_of k (length ts) head (masks_of call)) (map (apply_of r) goal) ts) (sym len) entered),
    )

module _ (s : StateView) (hs ts : List Term) (d : DescribesInstance s hs ts) where
  abbrev masks : List ℕ
  masks = masks_of s.abs

  -- the state is that of its assignments
  at_masks : (R : StateView → Type 0) → R (state_with (length hs) (length ts) masks) → R s
  at_masks R h = subst R (sym (state_is (length hs) (length ts) s d.is_state.first_arity d.is_state.first_variables d.is_state.order.first_is)) h

  -- the literal's arguments in the instance are described
  pub call_describes : (args : List Term) → all_below (length ts) args ≡ true → Describes (groundness.call s args).value (map (instance_of ts) args)
  call_describes args below = record {
    is_value = subst (λ k. Leq k (groundness.call s args).value (groundness.call s args).value) (sym (length-map args (instance_of ts)))
        (call_monotone (length hs) (length ts) args s s below d.is_state);
    described = at_masks (λ s. describes (masks_of (groundness.call s args).value) (map (instance_of ts) args))
        (call_sound hs ts args below masks d.described);
  }

  -- the head's arguments in the instance are described
  pub exit_describes : (head : List Term) → Describes (groundness.exit s head) hs
  exit_describes head = record {
    is_value = exit_monotone (length hs) (length ts) head s s d.is_state;
    described = at_masks (λ s. describes (masks_of (groundness.exit s head)) hs)
        (exit_sound masks hs ts d.described);
  }

  module _ (args : List Term) (below : all_below (length ts) args ≡ true) (r : List (ℕ × Term)) where
    -- the instance is described after a substitution behind which the answer describes the literal's arguments
    pub back_describes : (answer : Abs) → Describes answer (map (apply_of r) (map (instance_of ts) args))
        → (next : StateView) × ((groundness.back s args answer).value ≡ Some next) × DescribesInstance next (map (apply_of r) hs) (map (apply_of r) ts)
    back_describes answer a =
        let size : length (map (apply_of r) (map (instance_of ts) args)) ≡ length args =
        length-map (map (instance_of ts) args) (apply_of r) ∙ length-map args (instance_of ts) in
        let positive : IsPositive (length args) (masks_of answer) = subst (λ k. IsPositive k (masks_of answer)) size a.is_value.order.first in
        at_masks (λ s. (next : StateView) × ((groundness.back s args answer).value ≡ Some next)
        × DescribesInstance next (map (apply_of r) hs) (map (apply_of r) ts)) (
          state_with (length hs) (length ts) (back_of (length hs) (length ts) args (masks_of answer) masks),
          refl,
          state_describes (length hs) (length ts) (back_of (length hs) (length ts) args (masks_of answer) masks) (map (apply_of r) hs) (map (apply_of r) ts)
              (sym (length-map hs (apply_of r))) (sym (length-map ts (apply_of r)))
              (back_order (length hs) (length ts) args (masks_of answer) (masks_of answer) masks masks below (LeqModels-refl positive) d.is_state.order.order)
              (back_sound hs ts args below r (masks_of answer) masks d.described a.described),
        )

    -- the instance is described after a substitution that the action allows
    pub refine_describes : (action : Action) → acts_within (length args) action → allows_at (map (instance_of ts) args) r action
        → (next : StateView) × ((groundness.refine s args action).value ≡ Some next) × DescribesInstance next (map (apply_of r) hs) (map (apply_of r) ts)
    refine_describes action w h =
        let (ys, given, moved) = refine_sound hs ts args below action r masks w d.described h in
        at_masks (λ s. (next : StateView) × ((groundness.refine s args action).value ≡ Some next)
        × DescribesInstance next (map (apply_of r) hs) (map (apply_of r) ts)) (
          state_with (length hs) (length ts) ys,
          ap (state_from (length hs) (length ts)) given,
          state_describes (length hs) (length ts) ys (map (apply_of r) hs) (map (apply_of r) ts)
              (sym (length-map hs (apply_of r))) (sym (length-map ts (apply_of r)))
              (subst (λ o. UpTo (LeqModels (length hs + length ts)) o o) given
              (refine_order (length hs) (length ts) args below action masks masks w d.is_state.order.order))
              moved,
        )
