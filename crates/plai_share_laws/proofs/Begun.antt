-- A described goal that unifies with the renamed head of a clause gives a state that describes the instance.
use Rattle.std.proofs.Common.{◌≡◌, ℕ, ◌+◌, ◌-◌, ◌<◌, Bool, true, false, cond, nat_lt, List, [], map, length, Some, refl, sym, ap, subst, ◌∙◌, arith}
use Rattle.std.proofs.lemmas.List.{length-map}
use Rattle.plai_terms.specs.declared.term.Term.{Term, Var}
use Rattle.plai_terms.specs.declared.abs.Abs.{Abs}
use Rattle.plai_terms.specs.declared.outcome.Outcome.TheVariants.{Unified}
use Rattle.plai_terms.specs.Subst.{bound_to}
use Rattle.plai_terms.specs.Substitution.{under, then_also, raised, AreBelow}
use Rattle.plai_terms.specs.Unification.{Bindings, equations, solve, UnifiesTo}
use Rattle.plai_terms.proofs.Under.{under_same_all, under_under}
use Rattle.plai_terms.proofs.Outcomes.{unifier}
use Rattle.plai_domain.specs.Plain.{StateView}
use Rattle.plai_domain.specs.Conditions.{IsHead}
use Rattle.plai_domain.specs.Soundness.{numbers, Speaks}
use Rattle.plai_share_laws.specs.Shares.{Shares}
use Rattle.plai_share_laws.specs.Calls.{enter}
use Rattle.plai_share_laws.specs.Sharing.{shares_of, Describes, state_with, sides_of, sharing}
use Rattle.plai_share_laws.proofs.Ordered.{IsValue}
use Rattle.plai_share_laws.proofs.Meaning as meaning
use Rattle.plai_share_laws.proofs.Compose.{enter_value}
use Rattle.plai_share_laws.proofs.Placed.{placed, term_at, start_terms, solved}
use Rattle.plai_share_laws.proofs.Described.{in_place}
use Rattle.plai_share_laws.proofs.Allowed.{term_at-map, higher}
use Rattle.plai_share_laws.proofs.Tuples.{lower, lower_test}
use Rattle.plai_share_laws.proofs.Entered.{enter_terms}
use Rattle.plai_share_laws.proofs.Canonical.{is_value, is_shares}
use Rattle.plai_share_laws.proofs.Clause.{argument_low, before_at, at_slots, variable_slot, speaks}
use Rattle.plai_share_laws.proofs.Acts.{of_pattern}
use Rattle.plai_share_laws.proofs.Chain.{Chain, chain}

-- the terms at the start
start_goal : (arity n : ℕ) (goal : ℕ → Term) (k : ℕ) → k < arity → start_terms arity n goal k ≡ goal k
start_goal arity n goal k l = ap (λ b. cond b (goal k) (Var (n + (k - arity)))) (lower_test k arity l)

not_lower : (a x : ℕ) → nat_lt (a + x) a ≡ false
not_lower a x = of (nat_lt (a + x) a) refl
  where
    of : (b : Bool) → nat_lt (a + x) a ≡ b → nat_lt (a + x) a ≡ false
    of true t = let l = lower (a + x) a t in absurd (omega (arith, l))
    of false t = t

start_variable : (arity n : ℕ) (goal : ℕ → Term) (x : ℕ) → start_terms arity n goal (arity + x) ≡ Var (x + n)
start_variable arity n goal x =
    let e : n + ((arity + x) - arity) ≡ x + n = omega arith in
    ap (λ b. cond b (goal (arity + x)) (Var (n + ((arity + x) - arity)))) (not_lower arity x) ∙ ap Var e

module _ (head : List Term) (variables : ℕ) (h : IsHead (length head) variables head) (call : Abs) (ts : List Term) (n : ℕ) (s : Bindings)
    (as_many : length head ≡ length ts) (d : Describes call ts) (below : AreBelow n ts) (u : UnifiesTo (map (under (raised n)) head) ts (Unified s)) where
  abbrev size : ℕ
  size = length head + variables

  abbrev v : Shares
  v = shares_of call

  abbrev start : ℕ → Term
  start = start_terms (length head) n (term_at ts)

  abbrev made : ℕ → Term
  made = then_also (raised n) (bound_to s)

  value : IsValue (length head) v
  value = subst (λ z. IsValue z v) (sym as_many) (is_value (length ts) v d.is_value.order.first)

  steps : Chain (length head) 0 head start s
  steps =
      let e : map (under (λ x. start (length head + x))) head ≡ map (under (raised n)) head =
      under_same_all (λ x. start (length head + x)) (raised n) head (λ x o. start_variable (length head) n (term_at ts) x) in
      chain (length head) head ts 0 start u.0 s as_many
      (λ j l. let b : j < length head = omega (arith, l, as_many) in let e : j ≡ 0 + j = omega arith in
      sym (start_goal (length head) n (term_at ts) j b) ∙ ap start e)
      (subst (λ hs. solve u.0 (equations hs ts) [] ≡ Some (Unified s)) (sym e) u.1)

  -- at the arguments' slots, and at the variables'
  at_goal : (k : ℕ) → k < length head → under (bound_to s) (start k) ≡ at_slots head variables made k
  at_goal k l =
      let b : k < length ts = omega (arith, l, as_many) in
      let m : k < length (map (under made) head) = subst (λ z. k < z) (sym (length-map head (under made))) l in
      let r : k < length (map (under (raised n)) head) = subst (λ z. k < z) (sym (length-map head (under (raised n)))) l in
      let same = (unifier (map (under (raised n)) head) ts s (length-map head (under (raised n)) ∙ as_many) u).unifies in
      ap (under (bound_to s)) (start_goal (length head) n (term_at ts) k l)
      ∙ sym (term_at-map (under (bound_to s)) ts k b)
      ∙ ap (λ xs. term_at xs k) (sym same)
      ∙ term_at-map (under (bound_to s)) (map (under (raised n)) head) k r
      ∙ ap (under (bound_to s)) (term_at-map (under (raised n)) head k l)
      ∙ under_under (raised n) (bound_to s) (term_at head k)
      ∙ sym (term_at-map (under made) head k l)
      ∙ sym (before_at (map (under made) head) (map made (numbers 0 variables)) k m)

  at_variable : (x : ℕ) → x < variables → under (bound_to s) (start (length head + x)) ≡ at_slots head variables made (length head + x)
  at_variable x l = ap (under (bound_to s)) (start_variable (length head) n (term_at ts) x) ∙ sym (variable_slot head variables made x l)

  same_terms : (k : ℕ) → k < size → solved steps.each start k ≡ at_slots head variables made k
  same_terms k l = steps.whole k ∙ of (nat_lt k (length head)) refl
    where
      of : (b : Bool) → nat_lt k (length head) ≡ b → under (bound_to s) (start k) ≡ at_slots head variables made k
      of true t = at_goal k (lower k (length head) t)
      of false t =
          let m = higher k (length head) t in
          let e : length head + (k - length head) ≡ k = omega (arith, m) in
          subst (λ z. under (bound_to s) (start z) ≡ at_slots head variables made z) e (at_variable (k - length head) (omega (arith, l, m)))

  pub acts_enter : (st : StateView) × ((sharing.enter call head variables).value ≡ Some st) × Speaks sharing head variables st made
  acts_enter =
      let w = enter variables (sides_of (length head) head) v in
      let known : meaning.Describes v (placed (length head) (term_at ts)) =
      subst (λ z. meaning.Describes v (placed z (term_at ts))) (sym as_many) (of_pattern call ts d) in
      let e = enter_terms (length head) n variables (term_at ts) head steps.each v value.slots (omega arith)
      (λ x k l o. below x (in_place x ts k (omega (arith, l, as_many)) o)) (argument_low variables head h.below) known steps.are_solved in (
        state_with (length head) variables w,
        refl,
        speaks head variables made w (solved steps.each start) (is_shares size w (enter_value (length head) (sides_of (length head) head) v value variables))
            same_terms e,
      )
