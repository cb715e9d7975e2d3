-- The order of values and states, and that each operation is monotone.
use Rattle.std.proofs.Common.{◌≡◌, ℕ, ◌+◌, ◌/◌, ◌^◌, ◌≤◌, ◌<◌, Bool, true, ◌||◌, List, filter, length, inl, inr, sym, ap, ◌∙◌, arith}
use Rattle.std.proofs.lemmas.Bool.{or_cases, or_left, or_right}
use Rattle.plai_base.specs.Sets.{has}
use Rattle.plai_base.specs.Mask.{all_true}
use Rattle.plai_base.proofs.Sets.{has_kept, kept_has, antisym}
use Rattle.plai_base.proofs.Bits.{top_div}
use Rattle.plai_terms.specs.declared.term.Term.{Term}
use Rattle.plai_domain.specs.Instances.{all_below}
use Rattle.plai_pos_laws.specs.Assignments.{IsPositive, LeqModels, widened, with_literal, enter_of, call_of, back_of, exit_of, join_of, acted}
use Rattle.plai_pos_laws.proofs.Parts.{IsWithin-refl, IsWithin-filter, IsWithin-widened, IsWithin-first_slots, IsWithin-later_slots, IsWithin-unify_all}
use Rattle.plai_pos_laws.proofs.Parts.{IsWithin-with_literal, value_kept, value_filter, value_widened, value_first_slots, value_later_slots, value_unify_all}
use Rattle.plai_pos_laws.proofs.Parts.{value_with_literal}

-- ---- the order

pub LeqModels-trans : {n : ℕ} {xs ys zs : List ℕ} → LeqModels n xs ys → LeqModels n ys zs → LeqModels n xs zs
LeqModels-trans h k = record { first = h.first; second = k.second; within = λ m e. k.within m (h.within m e) }

pub LeqModels-antisym : {n : ℕ} {xs ys : List ℕ} → LeqModels n xs ys → LeqModels n ys xs → xs ≡ ys
LeqModels-antisym {n} {xs} {ys} h k = antisym (2 ^ n) xs ys h.first.is_set h.second.is_set h.within k.within

pub LeqModels-refl : {n : ℕ} {xs : List ℕ} → IsPositive n xs → LeqModels n xs xs
LeqModels-refl {n} {xs} v = record { first = v; second = v; within = IsWithin-refl xs }

-- ---- join

pub value_join : (n : ℕ) (xs ys : List ℕ) → IsPositive n xs → IsPositive n ys → IsPositive n (join_of n xs ys)
value_join n xs ys x y = value_kept n (λ m. has xs m || has ys m) (or_left _ _ x.has_top)

pub join_first : {n : ℕ} {xs ys : List ℕ} → IsPositive n xs → IsPositive n ys → LeqModels n xs (join_of n xs ys)
join_first {n} {xs} {ys} x y = record {
  first = x;
  second = value_join n xs ys x y;
  within = λ m e. kept_has (2 ^ n) (λ m. has xs m || has ys m) m (below x m e) (or_left _ _ e);
}
  where
    below : {n : ℕ} {xs : List ℕ} → IsPositive n xs → (m : ℕ) → has xs m ≡ true → m < 2 ^ n
    below {n} {xs} x m e = (has_kept (2 ^ n) (has xs) m (sym (ap (λ l. has l m) x.is_set) ∙ e)).0

pub join_second : {n : ℕ} {xs ys : List ℕ} → IsPositive n xs → IsPositive n ys → LeqModels n ys (join_of n xs ys)
join_second {n} {xs} {ys} x y = record {
  first = y;
  second = value_join n xs ys x y;
  within = λ m e. kept_has (2 ^ n) (λ m. has xs m || has ys m) m (has_kept (2 ^ n) (has ys) m (sym (ap (λ l. has l m) y.is_set) ∙ e)).0 (or_right _ _ e);
}

pub join_least : {n : ℕ} {xs ys zs : List ℕ} → LeqModels n xs zs → LeqModels n ys zs → LeqModels n (join_of n xs ys) zs
join_least {n} {xs} {ys} {zs} h k = record {
  first = value_join n xs ys h.first k.first;
  second = h.second;
  within = λ m e. elim (or_cases (has xs m) (has ys m) (has_kept (2 ^ n) (λ m. has xs m || has ys m) m e).1) [ inl q ↦ h.within m q | inr q ↦ k.within m q ];
}

-- ---- the operations

pub value_enter : (n v : ℕ) (head : List Term) (xs : List ℕ) → length head ≤ n → all_below v head ≡ true → IsPositive n xs
    → IsPositive (n + v) (enter_of n v head xs)
value_enter n v head xs le below x =
    value_unify_all (n + v) n v 0 head (widened n v xs) (value_widened n v xs x) (omega arith) (omega arith) below

pub enter_order : (n v : ℕ) (head : List Term) (xs ys : List ℕ) → length head ≤ n → all_below v head ≡ true
    → LeqModels n xs ys → LeqModels (n + v) (enter_of n v head xs) (enter_of n v head ys)
enter_order n v head xs ys le below h = record {
  first = value_enter n v head xs le below h.first;
  second = value_enter n v head ys le below h.second;
  within = IsWithin-unify_all n 0 head (widened n v xs) (widened n v ys) (IsWithin-widened n v xs ys h.within);
}

pub value_call : (n v : ℕ) (args : List Term) (xs : List ℕ) → all_below v args ≡ true → IsPositive (n + v) xs → IsPositive (length args) (call_of n v args xs)
value_call n v args xs below x = value_later_slots (n + v) (length args) (with_literal n v args xs) (value_with_literal n v args xs x below)

pub call_order : (n v : ℕ) (args : List Term) (xs ys : List ℕ) → all_below v args ≡ true
    → LeqModels (n + v) xs ys → LeqModels (length args) (call_of n v args xs) (call_of n v args ys)
call_order n v args xs ys below h = record {
  first = value_call n v args xs below h.first;
  second = value_call n v args ys below h.second;
  within = IsWithin-later_slots (n + v) (length args) (with_literal n v args xs) (with_literal n v args ys) (IsWithin-with_literal n v args xs ys h.within);
}

-- `back` and the actions that filter: the tests are in order, and pass at the all-true assignment
pub value_acted : (n v : ℕ) (args : List Term) (test : ℕ → Bool) (xs : List ℕ) → all_below v args ≡ true → test (all_true (n + v + length args)) ≡ true
    → IsPositive (n + v) xs → IsPositive (n + v) (acted n v args test xs)
value_acted n v args test xs below e x =
    value_first_slots (n + v) (length args) (filter test (with_literal n v args xs))
    (value_filter (n + v + length args) test (with_literal n v args xs) (value_with_literal n v args xs x below) e)

pub acted_order : (n v : ℕ) (args : List Term) (p q : ℕ → Bool) (xs ys : List ℕ) → all_below v args ≡ true
    → p (all_true (n + v + length args)) ≡ true → ((m : ℕ) → p m ≡ true → q m ≡ true)
    → LeqModels (n + v) xs ys → LeqModels (n + v) (acted n v args p xs) (acted n v args q ys)
acted_order n v args p q xs ys below e i h = record {
  first = value_acted n v args p xs below e h.first;
  second = value_acted n v args q ys below (i (all_true (n + v + length args)) e) h.second;
  within = IsWithin-first_slots (n + v) (filter p (with_literal n v args xs)) (filter q (with_literal n v args ys))
      (IsWithin-filter p q (with_literal n v args xs) (with_literal n v args ys) (IsWithin-with_literal n v args xs ys h.within) i);
}

pub back_order : (n v : ℕ) (args : List Term) (a b xs ys : List ℕ) → all_below v args ≡ true
    → LeqModels (length args) a b → LeqModels (n + v) xs ys → LeqModels (n + v) (back_of n v args a xs) (back_of n v args b ys)
back_order n v args a b xs ys below k h =
    acted_order n v args (λ y. has a (y / 2 ^ (n + v))) (λ y. has b (y / 2 ^ (n + v))) xs ys below
    (ap (has a) (top_div (n + v) (length args)) ∙ k.first.has_top) (λ m e. k.within (m / 2 ^ (n + v)) e) h

pub exit_order : (n v : ℕ) (xs ys : List ℕ) → LeqModels (n + v) xs ys → LeqModels n (exit_of n xs) (exit_of n ys)
exit_order n v xs ys h = record {
  first = value_first_slots n v xs h.first;
  second = value_first_slots n v ys h.second;
  within = IsWithin-first_slots n xs ys h.within;
}
