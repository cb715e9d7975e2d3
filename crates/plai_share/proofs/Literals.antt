-- Calls of literals and their answers, part by part.
use Rattle.std.proofs.Common.{◌≡◌, ℕ, suc, ◌+◌, ◌*◌, ◌^◌, ◌<◌, ◌≤◌, List, [], ◌∷◌, ◌++◌, map, length, None, Some, Err, refl, sym, ap, subst, ◌∙◌, arith}
use Rattle.std.proofs.lemmas.List.{length-map}
use Rattle.plai_base.specs.Mask.{all_true}
use Rattle.plai_terms.specs.declared.term.Term.{Term}
use Rattle.plai_domain.specs.declared.dom_fail.DomFail.{DomFail}
use Rattle.plai_domain.specs.declared.dom_fail.DomFail.TheVariants.{Memory, Over}
use Rattle.plai_domain.specs.Plain.{Formed}
use Rattle.plai_domain.specs.Outcomes.{too_large_from, too_large, IsOutcome}
use Rattle.plai_share_laws.specs.Shares.{Shares, Side, Slot, unify, unify_formed, widen_by, first_slots, last_slots, answered, answered_formed, sizes}
use Rattle.plai_share_laws.specs.Calls.{unify_each, each_formed, enter, enter_formed, extend, extend_formed, call, back, back_formed, raise}
use Rattle.plai_share_laws.specs.Sharing.{abs_of, sides_of, state_with}
use Rattle.plai_share_laws.specs.Sides.{side_of}
use Rattle.plai_share.specs.Formed.{IsFailure}
use Rattle.plai_share.proofs.Places.{behind, fails_later, unify_few, length_both}

-- an operation that fails in a part
pub outcome_fails : {W B : Type 0} (wide : W → B) (f : Formed B) (sets : List (List ℕ)) (fail : DomFail) → sizes sets ≡ f.sizes
    → IsFailure 0 sets fail → IsOutcome wide f (Err fail)
outcome_fails wide f sets Memory e h = tt
outcome_fails wide f sets (Over place) e h = ap too_large (sym e) ∙ h

-- ---- each argument

pub each_few : (ts : List Side) (k : ℕ) (v : Shares) → length (each_formed k ts v) ≤ 4 * length ts
each_few [] k v = omega arith
each_few (t ∷ ts) k v =
    let a = length_both (unify_formed (Slot k) t v) (each_formed (suc k) ts (unify (Slot k) t v)) in
    let b = unify_few (Slot k) t v in
    let d = each_few ts (suc k) (unify (Slot k) t v) in omega (arith, a, b, d)

pub sides_length : (n : ℕ) (args : List Term) → length (sides_of n args) ≡ length args
sides_length n args = length-map args (side_of n)

-- ---- enter

pub enter_ok : (n variables : ℕ) (sides : List Side) (call wide next : Shares) → wide ≡ widen_by variables call
    → too_large_from 1 (sizes (each_formed 0 sides wide)) ≡ None → next ≡ unify_each 0 sides wide
    → (too_large (sizes (enter_formed variables sides call)) ≡ None) ×
    (Some (state_with n variables next) ≡ Some (state_with n variables (enter variables sides call)))
enter_ok n variables sides call wide next e h d = (
  subst (λ w. too_large_from 1 (sizes (each_formed 0 sides w)) ≡ None) e h,
  ap (λ w. Some (state_with n variables w)) (d ∙ ap (unify_each 0 sides) e),
)

-- ---- slots for the literal

pub extend_count : (old now first n : ℕ) (args : List Term) (v wide : Shares) → old ≡ 0 → wide ≡ widen_by (length args) v
    → now ≡ old + length (each_formed first (sides_of n args) wide) → now ≡ length (extend_formed first (sides_of n args) v)
extend_count old now first n args v wide z e h =
    let d = e ∙ ap (λ k. widen_by k v) (sym (sides_length n args)) in
    h ∙ ap (λ k. k + length (each_formed first (sides_of n args) wide)) z
    ∙ (let f : 0 + length (each_formed first (sides_of n args) wide) ≡ length (each_formed first (sides_of n args) wide) = omega arith in f)
    ∙ ap (λ w. length (each_formed first (sides_of n args) w)) d

pub extend_few : (old now first n : ℕ) (args : List Term) (wide : Shares) → old ≡ 0 → length args ≤ 16
    → now ≡ old + length (each_formed first (sides_of n args) wide) → now < 2 ^ 20
extend_few old now first n args wide z l h =
    let a = each_few (sides_of n args) first wide in
    let b = sides_length n args in omega (arith, a, b, h, z, l)

-- ---- call

pub call_ok : (first n : ℕ) (args : List Term) (v wide next : Shares) → wide ≡ extend first (sides_of n args) v → next ≡ last_slots first (length args) wide
    → abs_of next ≡ abs_of (call first (sides_of n args) v)
call_ok first n args v wide next e d = ap abs_of (d ∙ ap (last_slots first (length args)) e ∙ ap
    (λ k. last_slots first k (extend first (sides_of n args) v)) (sym (sides_length n args)))

-- ---- back

module _ (first n : ℕ) (args : List Term) (v : Shares) (answer : Shares) (count : ℕ) (m : count ≡ length args) where
  abbrev pub sides : List Side
  sides = sides_of n args

  abbrev pub set_of : ℕ → ℕ
  set_of k = raise first (all_true k)

  abbrev pub groups : List ℕ
  groups = map (raise first) answer.groups

  counted : count ≡ length sides
  counted = m ∙ sym (sides_length n args)

  formed_is : (wide : Shares) → wide ≡ extend first sides v → extend_formed first sides v ++ answered_formed
      (set_of count) groups wide ≡ back_formed first sides v answer
  formed_is wide e = ap (λ w. extend_formed first sides v ++ answered_formed (set_of count) groups w) e
      ∙ ap (λ k. extend_formed first sides v ++ answered_formed (set_of k) groups (extend first sides v)) counted

  pub back_fails : (wide : Shares) (now : ℕ) (fail : DomFail) → wide ≡ extend first sides v
      → too_large_from (0 + 1) (sizes (extend_formed first sides v)) ≡ None → now ≡ length (extend_formed first sides v)
      → IsFailure now (answered_formed (set_of count) groups wide) fail → IsFailure 0 (back_formed first sides v answer) fail
  back_fails wide now fail e h d p = subst (λ zs. IsFailure 0 zs fail) (formed_is wide e)
      (fails_later 0 now (extend_formed first sides v) (answered_formed (set_of count) groups wide) fail h
      (d ∙ (let z : length (extend_formed first sides v) ≡ 0 + length (extend_formed first sides v) = omega arith in z)) p)

  pub back_sizes : (wide : Shares) (now : ℕ) → wide ≡ extend first sides v
      → too_large_from (0 + 1) (sizes (extend_formed first sides v)) ≡ None → now ≡ length (extend_formed first sides v)
      → too_large_from (now + 1) (sizes (answered_formed (set_of count) groups wide)) ≡ None → too_large (sizes (back_formed first sides v answer)) ≡ None
  back_sizes wide now e h d p = ap (λ zs. too_large_from 1 (sizes zs)) (sym (formed_is wide e))
      ∙ behind 0 (extend_formed first sides v) (answered_formed (set_of count) groups wide) h
      ∙ ap (λ k. too_large_from (k + 1) (sizes (answered_formed (set_of count) groups wide)))
      (sym (d ∙ (let z : length (extend_formed first sides v) ≡ 0 + length (extend_formed first sides v) = omega arith in z)))
      ∙ p

  pub back_value : (arity variables : ℕ) (wide after next : Shares) → wide ≡ extend first sides v
      → after ≡ answered (set_of count) groups (raise first answer.free) wide
      → next ≡ first_slots first after → Some (state_with arity variables next) ≡ Some (state_with arity variables (back first sides v answer))
  back_value arity variables wide after next e d p = ap (λ w. Some (state_with arity variables w))
      (p ∙ ap (first_slots first) (d ∙ ap (answered (set_of count) groups (raise first answer.free)) e
      ∙ ap (λ k. answered (set_of k) groups (raise first answer.free) (extend first sides v)) counted))

-- ---- one argument more

pub no_terms : (ts : List Term) (first n old : ℕ) (v : Shares) → length ts ≡ 0
    → (too_large_from (old + 1) (sizes (each_formed first (sides_of n ts) v)) ≡ None) × (v ≡ unify_each first (sides_of n ts) v) ×
    (old ≡ old + length (each_formed first (sides_of n ts) v))
no_terms [] first n old v e = (refl, refl, let z : old ≡ old + 0 = omega arith in z)
no_terms (t ∷ ts) first n old v e = absurd (omega arith)
