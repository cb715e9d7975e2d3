-- What `call`, `back` and the actions that filter give, assignment by assignment.
use Rattle.std.proofs.Common.{◌≡◌, ℕ, ◌+◌, ◌/◌, ◌%◌, ◌^◌, ◌<◌, Bool, true, false, nat_eq, List, filter, length, get_or, refl, sym, ap, ◌∙◌, subst}
use Rattle.std.proofs.lemmas.Bool.{eq-eqb, eqb-true}
use Rattle.std.proofs.lemmas.List.{get_or-map}
use Rattle.std.proofs.lemmas.Nat.{shr_high}
use Rattle.plai_base.specs.Mask.{has_slot, pattern}
use Rattle.plai_base.specs.Sets.{has, has_some, kept, IsSet}
use Rattle.plai_base.proofs.Sets.{same_tests, same_set, is_kept, IsSet-kept, IsSet-filter, IsSet_below, filter_within, filter_passes, has_filter, some_from}
use Rattle.plai_base.proofs.Sets.{some_of}
use Rattle.plai_base.proofs.Bits.{slot_high, pattern_slot}
use Rattle.plai_terms.specs.declared.term.Term.{Term, Var}
use Rattle.plai_domain.specs.Instances.{all_below}
use Rattle.plai_pos_laws.specs.Assignments.{agree, holds, variable_in, with_literal, call_of, back_of, acted}
use Rattle.plai_pos_laws.specs.Truths.{pattern_of, truths}
use Rattle.plai_pos_laws.proofs.Holds.{holds_alike}
use Rattle.plai_pos_laws.proofs.Direct.{call_in, call_out, acted_in, acted_out, extended}
use Rattle.plai_pos_laws.proofs.Enter.{truths_high}

pub pattern_high : (n x : ℕ) (terms : List Term) → pattern (truths n x terms) ≡ pattern_of terms (x / 2 ^ n)
pattern_high n x terms = ap pattern (truths_high n x terms)

module _ (n v : ℕ) (args : List Term) (below : all_below v args ≡ true) (xs : List ℕ) (is : IsSet (2 ^ (n + v)) xs) where
  pub call_is : call_of n v args xs ≡ kept (2 ^ length args) (λ a. has_some xs (λ x. nat_eq (pattern_of args (x / 2 ^ n)) a))
  call_is =
      is_kept (2 ^ length args) (call_of n v args xs) (λ a. has_some xs (λ x. nat_eq (pattern_of args (x / 2 ^ n)) a))
      (IsSet-kept (2 ^ length args) (λ a. has_some (with_literal n v args xs) (λ x. nat_eq (x / 2 ^ (n + v)) a)))
      (λ a l. same_tests _ _
      (λ e.
      let (x, h, k) = call_out n v args below xs a e in
      some_from xs (λ x. nat_eq (pattern_of args (x / 2 ^ n)) a) x h (eq-eqb _ _ (sym (pattern_high n x args) ∙ k)))
      (λ e.
      let (x, h, k) = some_of xs (λ x. nat_eq (pattern_of args (x / 2 ^ n)) a) e in
      subst (λ z. has (call_of n v args xs) z ≡ true) (pattern_high n x args ∙ eqb-true _ _ k)
      (call_in n v args below xs x h (IsSet_below (2 ^ (n + v)) xs x is h))))

  pub acted_is : (test : ℕ → Bool) → acted n v args test xs ≡ filter (λ x. test (extended n v args x)) xs
  acted_is test =
      same_set (2 ^ (n + v)) (acted n v args test xs) (filter (λ x. test (extended n v args x)) xs)
      (IsSet-kept (2 ^ (n + v)) (λ a. has_some (filter test (with_literal n v args xs)) (λ x. nat_eq (x % 2 ^ (n + v)) a)))
      (IsSet-filter (2 ^ (n + v)) (λ x. test (extended n v args x)) xs is)
      (λ x l. same_tests _ _
      (λ e. let r = acted_out n v args below test xs x e in has_filter (λ x. test (extended n v args x)) xs x r.0 r.1)
      (λ e. acted_in n v args below test xs x (filter_within (λ x. test (extended n v args x)) xs x e) l
      (filter_passes (λ x. test (extended n v args x)) xs x e)))

  filter_same : (p q : ℕ → Bool) → ((x : ℕ) → x < 2 ^ (n + v) → p x ≡ q x) → filter p xs ≡ filter q xs
  filter_same p q h =
      same_set (2 ^ (n + v)) (filter p xs) (filter q xs) (IsSet-filter (2 ^ (n + v)) p xs is) (IsSet-filter (2 ^ (n + v)) q xs is)
      (λ x l. same_tests _ _
      (λ e. has_filter q xs x (filter_within p xs x e) (sym (h x l) ∙ filter_passes p xs x e))
      (λ e. has_filter p xs x (filter_within q xs x e) (h x l ∙ filter_passes q xs x e)))

  pub back_is : (answer : List ℕ) → back_of n v args answer xs ≡ filter (λ x. has answer (pattern_of args (x / 2 ^ n))) xs
  back_is answer =
      acted_is (λ y. has answer (y / 2 ^ (n + v)))
      ∙ filter_same (λ x. has answer (extended n v args x / 2 ^ (n + v))) (λ x. has answer (pattern_of args (x / 2 ^ n)))
      (λ x l. ap (has answer) (shr_high (pattern (truths n x args)) (n + v) x l ∙ pattern_high n x args))

  -- a literal's slot is the truth of its argument
  slot_is : (x j : ℕ) → x < 2 ^ (n + v) → j < length args → has_slot (extended n v args x) (n + v + j) ≡ holds (has_slot (x / 2 ^ n)) (get_or args j (Var 0))
  slot_is x j l w =
      sym (slot_high (extended n v args x) (n + v) j)
      ∙ ap (λ z. has_slot z j) (shr_high (pattern (truths n x args)) (n + v) x l)
      ∙ pattern_slot (truths n x args) j
      ∙ get_or-map (holds (variable_in n x)) args j (Var 0) false w
      ∙ holds_alike (variable_in n x) (has_slot (x / 2 ^ n)) (λ u. sym (slot_high x n u)) (get_or args j (Var 0))

  pub both_is : (i j : ℕ) → i < length args → j < length args
      → acted n v args (λ y. agree (has_slot y (n + v + i)) (has_slot y (n + v + j))) xs
      ≡ filter (λ x. agree (holds (has_slot (x / 2 ^ n)) (get_or args i (Var 0))) (holds (has_slot (x / 2 ^ n)) (get_or args j (Var 0)))) xs
  both_is i j k w =
      acted_is (λ y. agree (has_slot y (n + v + i)) (has_slot y (n + v + j)))
      ∙ filter_same _ _ (λ x l. let p = slot_is x i l k in let q = slot_is x j l w in rw (p, q) refl)

  pub truth_kept : (i : ℕ) → i < length args
      → acted n v args (λ y. has_slot y (n + v + i)) xs ≡ filter (λ x. holds (has_slot (x / 2 ^ n)) (get_or args i (Var 0))) xs
  truth_kept i k = acted_is (λ y. has_slot y (n + v + i)) ∙ filter_same _ _ (λ x l. slot_is x i l k)
