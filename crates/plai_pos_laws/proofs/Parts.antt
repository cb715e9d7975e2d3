-- Each part of an operation is monotone, and gives sets that have the all-true assignment.
use Rattle.std.proofs.Common.{◌≡◌, ℕ, suc, ◌+◌, ◌/◌, ◌%◌, ◌^◌, ◌≤◌, ◌<◌, Bool, true, nat_eq, List, [], ◌∷◌, filter, length, inl, inr, refl, ap, ◌∙◌, arith}
use Rattle.std.proofs.Common.{subst}
use Rattle.std.proofs.lemmas.Bool.{eq-eqb, eqb-true, and_parts, and_from, or_cases, or_left, or_right, false≢true}
use Rattle.plai_base.specs.Mask.{has_slot, all_true}
use Rattle.plai_base.specs.Sets.{has, has_some, has_all, kept, IsWithin}
use Rattle.plai_base.proofs.Sets.{has_kept, kept_has, IsSet-kept, IsSet-filter, filter_within, filter_passes, has_filter, some_from, some_of}
use Rattle.plai_base.proofs.Bits.{top_lt, top_slot, top_mod, top_div}
use Rattle.plai_terms.specs.declared.term.Term.{Term}
use Rattle.plai_terms.specs.Term.{has_variables_below}
use Rattle.plai_domain.specs.Instances.{all_below}
use Rattle.plai_pos_laws.specs.Assignments.{IsPositive, agree, holds, variable_in, unify, unify_all, widened, first_slots, later_slots, with_literal}
use Rattle.plai_pos_laws.proofs.Holds.{holds_same, holds_true}

pub IsWithin-refl : (xs : List ℕ) → IsWithin xs xs
IsWithin-refl xs m e = e

pub IsWithin-filter : (p q : ℕ → Bool) (xs ys : List ℕ) → IsWithin xs ys → ((m : ℕ) → p m ≡ true → q m ≡ true) → IsWithin (filter p xs) (filter q ys)
IsWithin-filter p q xs ys w h m e = has_filter q ys m (w m (filter_within p xs m e)) (h m (filter_passes p xs m e))

pub IsWithin-kept : (b : ℕ) (t u : ℕ → Bool) → ((m : ℕ) → t m ≡ true → u m ≡ true) → IsWithin (kept b t) (kept b u)
IsWithin-kept b t u h m e = let r = has_kept b t m e in kept_has b u m r.0 (h m r.1)

pub some_more : (xs ys : List ℕ) (t : ℕ → Bool) → IsWithin xs ys → has_some xs t ≡ true → has_some ys t ≡ true
some_more xs ys t w e = let (m, h, k) = some_of xs t e in some_from ys t m (w m h) k

pub all_of : (xs : List ℕ) (t : ℕ → Bool) (m : ℕ) → has_all xs t ≡ true → has xs m ≡ true → t m ≡ true
all_of [] t m e h = absurd (false≢true h)
all_of (x ∷ xs) t m e h =
    let r = and_parts (t x) (has_all xs t) e in
    elim (or_cases (nat_eq x m) (has xs m) h) [ inl q ↦ subst (λ i. t i ≡ true) (eqb-true x m q) r.0 | inr q ↦ all_of xs t m r.1 q ]

pub all_from : (xs : List ℕ) (t : ℕ → Bool) → ((m : ℕ) → has xs m ≡ true → t m ≡ true) → has_all xs t ≡ true
all_from [] t h = refl
all_from (x ∷ xs) t h = and_from _ _ (h x (or_left _ _ (eq-eqb x x refl))) (all_from xs t (λ m e. h m (or_right _ _ e)))

-- what all of the larger set pass, all of the smaller one do
pub all_less : (xs ys : List ℕ) (t : ℕ → Bool) → IsWithin xs ys → has_all ys t ≡ true → has_all xs t ≡ true
all_less xs ys t w e = all_from xs t (λ m h. all_of ys t m e (w m h))

pub IsWithin-widened : (n k : ℕ) (xs ys : List ℕ) → IsWithin xs ys → IsWithin (widened n k xs) (widened n k ys)
IsWithin-widened n k xs ys w = IsWithin-kept (2 ^ (n + k)) (λ x. has xs (x % 2 ^ n)) (λ x. has ys (x % 2 ^ n)) (λ m e. w (m % 2 ^ n) e)

pub IsWithin-first_slots : (n : ℕ) (xs ys : List ℕ) → IsWithin xs ys → IsWithin (first_slots n xs) (first_slots n ys)
IsWithin-first_slots n xs ys w = IsWithin-kept (2 ^ n) (λ a. has_some xs (λ x. nat_eq (x % 2 ^ n) a)) (λ a. has_some ys (λ x. nat_eq (x % 2 ^ n) a))
    (λ m e. some_more xs ys (λ x. nat_eq (x % 2 ^ n) m) w e)

pub IsWithin-later_slots : (n k : ℕ) (xs ys : List ℕ) → IsWithin xs ys → IsWithin (later_slots n k xs) (later_slots n k ys)
IsWithin-later_slots n k xs ys w = IsWithin-kept (2 ^ k) (λ a. has_some xs (λ x. nat_eq (x / 2 ^ n) a)) (λ a. has_some ys (λ x. nat_eq (x / 2 ^ n) a))
    (λ m e. some_more xs ys (λ x. nat_eq (x / 2 ^ n) m) w e)

pub IsWithin-unify_all : (n slot : ℕ) (terms : List Term) (xs ys : List ℕ) → IsWithin xs ys → IsWithin (unify_all n slot terms xs) (unify_all n slot terms ys)
IsWithin-unify_all n slot [] xs ys w = w
IsWithin-unify_all n slot (t ∷ ts) xs ys w =
    let test : ℕ → Bool = λ x. agree (has_slot x slot) (holds (variable_in n x) t) in
    IsWithin-unify_all n (suc slot) ts (unify n slot t xs) (unify n slot t ys) (IsWithin-filter test test xs ys w (λ m e. e))

pub IsWithin-with_literal : (n v : ℕ) (args : List Term) (xs ys : List ℕ) → IsWithin xs ys → IsWithin (with_literal n v args xs) (with_literal n v args ys)
IsWithin-with_literal n v args xs ys w =
    IsWithin-unify_all n (n + v) args (widened (n + v) (length args) xs) (widened (n + v) (length args) ys) (IsWithin-widened (n + v) (length args) xs ys w)

-- ---- values

pub value_kept : (n : ℕ) (t : ℕ → Bool) → t (all_true n) ≡ true → IsPositive n (kept (2 ^ n) t)
value_kept n t e = record { is_set = IsSet-kept (2 ^ n) t; has_top = kept_has (2 ^ n) t (all_true n) (top_lt n) e }

pub value_filter : (n : ℕ) (p : ℕ → Bool) (xs : List ℕ) → IsPositive n xs → p (all_true n) ≡ true → IsPositive n (filter p xs)
value_filter n p xs v e = record { is_set = IsSet-filter (2 ^ n) p xs v.is_set; has_top = has_filter p xs (all_true n) v.has_top e }

pub value_widened : (n k : ℕ) (xs : List ℕ) → IsPositive n xs → IsPositive (n + k) (widened n k xs)
value_widened n k xs v = value_kept (n + k) (λ x. has xs (x % 2 ^ n)) (ap (has xs) (top_mod n k) ∙ v.has_top)

pub value_first_slots : (n k : ℕ) (xs : List ℕ) → IsPositive (n + k) xs → IsPositive n (first_slots n xs)
value_first_slots n k xs v =
    value_kept n (λ a. has_some xs (λ x. nat_eq (x % 2 ^ n) a))
    (some_from xs (λ x. nat_eq (x % 2 ^ n) (all_true n)) (all_true (n + k)) v.has_top (eq-eqb (all_true (n + k) % 2 ^ n) (all_true n) (top_mod n k)))

pub value_later_slots : (n k : ℕ) (xs : List ℕ) → IsPositive (n + k) xs → IsPositive k (later_slots n k xs)
value_later_slots n k xs v =
    value_kept k (λ a. has_some xs (λ x. nat_eq (x / 2 ^ n) a))
    (some_from xs (λ x. nat_eq (x / 2 ^ n) (all_true k)) (all_true (n + k)) v.has_top (eq-eqb (all_true (n + k) / 2 ^ n) (all_true k) (top_div n k)))

-- under the all-true assignment a term with variables in range holds
pub top_holds : (b n v : ℕ) (t : Term) → n + v ≤ b → has_variables_below v t ≡ true → holds (variable_in n (all_true b)) t ≡ true
top_holds b n v t le e =
    holds_same v (variable_in n (all_true b)) (λ w. true) (λ w l. top_slot b (n + w) (omega arith)) t e ∙ holds_true t

pub agree_true : (a b : Bool) → a ≡ true → b ≡ true → agree a b ≡ true
agree_true a b e f = rw (e, f) refl

pub value_unify_all : (b n v slot : ℕ) (terms : List Term) (xs : List ℕ)
    → IsPositive b xs → slot + length terms ≤ b → n + v ≤ b → all_below v terms ≡ true → IsPositive b (unify_all n slot terms xs)
value_unify_all b n v slot [] xs x le room below = x
value_unify_all b n v slot (t ∷ ts) xs x le room below =
    let r = and_parts (has_variables_below v t) (all_below v ts) below in
    let in_range : slot < b = omega arith in
    let rest : suc slot + length ts ≤ b = omega arith in
    value_unify_all b n v (suc slot) ts (unify n slot t xs)
    (value_filter b (λ x. agree (has_slot x slot) (holds (variable_in n x) t)) xs x
    (agree_true (has_slot (all_true b) slot) (holds (variable_in n (all_true b)) t) (top_slot b slot in_range) (top_holds b n v t room r.0)))
    rest room r.1

pub value_with_literal : (n v : ℕ) (args : List Term) (xs : List ℕ) → IsPositive (n + v) xs → all_below v args ≡ true
    → IsPositive (n + v + length args) (with_literal n v args xs)
value_with_literal n v args xs x below =
    value_unify_all (n + v + length args) n v (n + v) args (widened (n + v) (length args) xs)
    (value_widened (n + v) (length args) xs x) (omega arith) (omega arith) below
