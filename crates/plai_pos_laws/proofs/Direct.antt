-- The members of what each operation gives, without the slots of a literal.
use Rattle.std.proofs.Common.{◌≡◌, ℕ, zero, suc, ◌+◌, ◌*◌, ◌/◌, ◌%◌, ◌^◌, ◌≤◌, ◌<◌, Bool, true, false, nat_eq, List, [], ◌∷◌, filter, length, get_or, refl}
use Rattle.std.proofs.Common.{sym, ap, ◌∙◌, arith, subst}
use Rattle.std.proofs.lemmas.List.{length-map}
use Rattle.std.proofs.Math.Nat.{mul-le-mul_right}
use Rattle.std.specs.Int.{bit_at}
use Rattle.std.proofs.lemmas.Bool.{eq-eqb, eqb-true, and_parts, and_from}
use Rattle.std.proofs.lemmas.Bool.Decides.{nat_tests}
use Rattle.std.proofs.lemmas.Nat.{pow_pos, pow-add, mod_low, shr_high, mod_below, shr_below, shr_split}
use Rattle.std.proofs.lemmas.Nat.Bits.{bit_at-lt, same_from_bits_below}
use Rattle.plai_base.specs.Mask.{has_slot, pattern}
use Rattle.plai_base.specs.Sets.{has, has_some}
use Rattle.plai_base.proofs.Sets.{has_kept, kept_has, filter_within, filter_passes, has_filter, some_from, some_of}
use Rattle.plai_base.proofs.Bits.{slot_low, slot_high, pattern_lt, pattern_slot}
use Rattle.plai_terms.specs.declared.term.Term.{Term}
use Rattle.plai_terms.specs.Term.{has_variables_below}
use Rattle.plai_domain.specs.Instances.{all_below}
use Rattle.plai_pos_laws.specs.Assignments.{agree, holds, variable_in, unify, unify_all, widened, first_slots, later_slots, with_literal, enter_of, call_of}
use Rattle.plai_pos_laws.specs.Assignments.{back_of, acted}
use Rattle.plai_pos_laws.specs.Truths.{truths, agrees}
use Rattle.plai_pos_laws.proofs.Holds.{holds_same}

-- ---- masks by their slots

same_bit : (x y : ℕ) → x < 2 → y < 2 → nat_eq x 1 ≡ nat_eq y 1 → x ≡ y
same_bit x y p q e = grind (arith, nat_tests)

pub same_slots : (k a b : ℕ) → a < 2 ^ k → b < 2 ^ k → ((i : ℕ) → i < k → has_slot a i ≡ has_slot b i) → a ≡ b
same_slots k a b p q h = same_from_bits_below k a b p q (λ i l. same_bit (bit_at a i) (bit_at b i) (bit_at-lt a i) (bit_at-lt b i) (h i l))

agree_same : (a b : Bool) → agree a b ≡ true → a ≡ b
agree_same true true e = refl
agree_same true false e = sym e
agree_same false true e = e
agree_same false false e = refl

pub same_agree : (a b : Bool) → a ≡ b → agree a b ≡ true
same_agree true b e = sym e
same_agree false b e = rw (← e) refl

-- ---- truths in a run of slots

pub agrees_at : (slot : ℕ) (bs : List Bool) (y j : ℕ) → agrees slot bs y ≡ true → j < length bs → has_slot y (slot + j) ≡ get_or bs j false
agrees_at slot [] y j e l = absurd (omega (arith, l))
agrees_at slot (b ∷ bs) y zero e l =
    let r = and_parts (agree (has_slot y slot) b) (agrees (suc slot) bs y) e in
    let q : slot + 0 ≡ slot = omega arith in
    ap (has_slot y) q ∙ agree_same (has_slot y slot) b r.0
agrees_at slot (b ∷ bs) y (suc j) e l =
    let r = and_parts (agree (has_slot y slot) b) (agrees (suc slot) bs y) e in
    let q : slot + suc j ≡ suc slot + j = omega arith in
    let less : j < length bs = omega (arith, l) in
    ap (has_slot y) q ∙ agrees_at (suc slot) bs y j r.1 less

pub agrees_from : (slot : ℕ) (bs : List Bool) (y : ℕ) → ((j : ℕ) → j < length bs → has_slot y (slot + j) ≡ get_or bs j false) → agrees slot bs y ≡ true
agrees_from slot [] y h = refl
agrees_from slot (b ∷ bs) y h =
    let q : slot ≡ slot + 0 = omega arith in
    and_from _ _
    (same_agree (has_slot y slot) b (ap (has_slot y) q ∙ h 0 (omega arith)))
    (agrees_from (suc slot) bs y (λ j l. let e : suc slot + j ≡ slot + suc j = omega arith in ap (has_slot y) e ∙ h (suc j) (omega (arith, l))))

-- the slots behind k have these truths exactly where they are their pattern
pub agrees_high : (k : ℕ) (bs : List Bool) (y : ℕ) → y < 2 ^ (k + length bs) → agrees k bs y ≡ true → y / 2 ^ k ≡ pattern bs
agrees_high k bs y l e =
    let fits : y < 2 ^ (length bs + k) = subst (λ z. y < 2 ^ z) (omega arith) l in
    same_slots (length bs) (y / 2 ^ k) (pattern bs) (shr_below y (length bs) k fits) (pattern_lt bs)
    (λ i less. slot_high y k i ∙ agrees_at k bs y i e less ∙ sym (pattern_slot bs i))

pub high_agrees : (k : ℕ) (bs : List Bool) (y : ℕ) → y / 2 ^ k ≡ pattern bs → agrees k bs y ≡ true
high_agrees k bs y e = agrees_from k bs y (λ j l. sym (slot_high y k j) ∙ ap (λ z. has_slot z j) e ∙ pattern_slot bs j)

-- the same for the first slots
pub agrees_low : (bs : List Bool) (y : ℕ) → agrees 0 bs y ≡ true → y % 2 ^ length bs ≡ pattern bs
agrees_low bs y e =
    same_slots (length bs) (y % 2 ^ length bs) (pattern bs) (mod_below y (2 ^ length bs) (pow_pos (length bs))) (pattern_lt bs)
    (λ i l. slot_low y (length bs) i l ∙ ap (has_slot y) (sym (omega arith)) ∙ agrees_at 0 bs y i e l ∙ sym (pattern_slot bs i))

pub low_agrees : (bs : List Bool) (y : ℕ) → y % 2 ^ length bs ≡ pattern bs → agrees 0 bs y ≡ true
low_agrees bs y e = agrees_from 0 bs y (λ j l.
    let q : 0 + j ≡ j = omega arith in
    ap (has_slot y) q ∙ sym (slot_low y (length bs) j l) ∙ ap (λ z. has_slot z j) e ∙ pattern_slot bs j)

-- ---- unify

pub unify_all_out : (n slot : ℕ) (terms : List Term) (xs : List ℕ) (y : ℕ) → has (unify_all n slot terms xs) y ≡ true
    → (has xs y ≡ true) × (agrees slot (truths n y terms) y ≡ true)
unify_all_out n slot [] xs y e = (e, refl)
unify_all_out n slot (t ∷ ts) xs y e =
    let test : ℕ → Bool = λ x. agree (has_slot x slot) (holds (variable_in n x) t) in
    let r = unify_all_out n (suc slot) ts (unify n slot t xs) y e in
    (filter_within test xs y r.0, and_from _ _ (filter_passes test xs y r.0) r.1)

pub unify_all_in : (n slot : ℕ) (terms : List Term) (xs : List ℕ) (y : ℕ) → has xs y ≡ true → agrees slot (truths n y terms) y ≡ true
    → has (unify_all n slot terms xs) y ≡ true
unify_all_in n slot [] xs y h e = h
unify_all_in n slot (t ∷ ts) xs y h e =
    let test : ℕ → Bool = λ x. agree (has_slot x slot) (holds (variable_in n x) t) in
    let r = and_parts (test y) (agrees (suc slot) (truths n y ts) y) e in
    unify_all_in n (suc slot) ts (unify n slot t xs) y (has_filter test xs y h r.0) r.1

-- ---- projections

pub first_in : (n : ℕ) (xs : List ℕ) (x : ℕ) → has xs x ≡ true → has (first_slots n xs) (x % 2 ^ n) ≡ true
first_in n xs x h =
    kept_has (2 ^ n) (λ a. has_some xs (λ x. nat_eq (x % 2 ^ n) a)) (x % 2 ^ n) (mod_below x (2 ^ n) (pow_pos n))
    (some_from xs (λ z. nat_eq (z % 2 ^ n) (x % 2 ^ n)) x h (eq-eqb (x % 2 ^ n) (x % 2 ^ n) refl))

pub first_out : (n : ℕ) (xs : List ℕ) (a : ℕ) → has (first_slots n xs) a ≡ true → (x : ℕ) × (has xs x ≡ true) × (x % 2 ^ n ≡ a)
first_out n xs a e =
    let r = has_kept (2 ^ n) (λ a. has_some xs (λ x. nat_eq (x % 2 ^ n) a)) a e in
    let (x, h, k) = some_of xs (λ x. nat_eq (x % 2 ^ n) a) r.1 in
    (x, h, eqb-true (x % 2 ^ n) a k)

pub later_in : (n k : ℕ) (xs : List ℕ) (x : ℕ) → has xs x ≡ true → x / 2 ^ n < 2 ^ k → has (later_slots n k xs) (x / 2 ^ n) ≡ true
later_in n k xs x h l =
    kept_has (2 ^ k) (λ a. has_some xs (λ x. nat_eq (x / 2 ^ n) a)) (x / 2 ^ n) l
    (some_from xs (λ z. nat_eq (z / 2 ^ n) (x / 2 ^ n)) x h (eq-eqb (x / 2 ^ n) (x / 2 ^ n) refl))

pub later_out : (n k : ℕ) (xs : List ℕ) (a : ℕ) → has (later_slots n k xs) a ≡ true → (x : ℕ) × (has xs x ≡ true) × (x / 2 ^ n ≡ a)
later_out n k xs a e =
    let r = has_kept (2 ^ k) (λ a. has_some xs (λ x. nat_eq (x / 2 ^ n) a)) a e in
    let (x, h, q) = some_of xs (λ x. nat_eq (x / 2 ^ n) a) r.1 in
    (x, h, eqb-true (x / 2 ^ n) a q)

-- ---- the literal's slots

-- terms over the clause's variables have the same truth where slots are added behind
pub same_truths : (n v : ℕ) (args : List Term) (y : ℕ) → all_below v args ≡ true → truths n y args ≡ truths n (y % 2 ^ (n + v)) args
same_truths n v [] y e = refl
same_truths n v (t ∷ ts) y e =
    let r = and_parts (has_variables_below v t) (all_below v ts) e in
    let p = holds_same v (variable_in n y) (variable_in n (y % 2 ^ (n + v))) (λ w l. sym (slot_low y (n + v) (n + w) (omega (arith, l)))) t r.0 in
    let q = same_truths n v ts y r.1 in
    cc

pub below_whole : (a x p q : ℕ) → a < p → x < q → a * q + x < q * p
below_whole a x zero q h k = absurd (omega (arith, h))
below_whole a x (suc p) q h k = let le : a ≤ p = omega (arith, h) in omega (arith, mul-le-mul_right q le, k)

pair_parts : (a b x y q : ℕ) → a ≡ b → x ≡ y → a * q + x ≡ b * q + y
pair_parts a b x y q e f = cc

module _ (n v : ℕ) (args : List Term) where
  length-truths : (x : ℕ) → length (truths n x args) ≡ length args
  length-truths x = length-map args (holds (variable_in n x))

  pub truths_lt : (x : ℕ) → pattern (truths n x args) < 2 ^ length args
  truths_lt x = subst (λ k. pattern (truths n x args) < 2 ^ k) (length-truths x) (pattern_lt (truths n x args))

  -- an assignment of the clause's slots, with those of the literal that it gives
  abbrev pub extended : ℕ → ℕ
  extended x = pattern (truths n x args) * 2 ^ (n + v) + x

  extended_low : (x : ℕ) → x < 2 ^ (n + v) → extended x % 2 ^ (n + v) ≡ x
  extended_low x l = mod_low (pattern (truths n x args)) (n + v) x l

  extended_high : (x : ℕ) → x < 2 ^ (n + v) → extended x / 2 ^ (n + v) ≡ pattern (truths n x args)
  extended_high x l = shr_high (pattern (truths n x args)) (n + v) x l

  extended_lt : (x : ℕ) → x < 2 ^ (n + v) → extended x < 2 ^ (n + v + length args)
  extended_lt x l = rw (pow-add 2 (n + v) (length args)) (below_whole (pattern (truths n x args)) x (2 ^ length args) (2 ^ (n + v)) (truths_lt x) l)

  module _ (below : all_below v args ≡ true) where
    pub literal_in : (xs : List ℕ) (x : ℕ) → has xs x ≡ true → x < 2 ^ (n + v) → has (with_literal n v args xs) (extended x) ≡ true
    literal_in xs x h l =
        unify_all_in n (n + v) args (widened (n + v) (length args) xs) (extended x)
        (kept_has (2 ^ (n + v + length args)) (λ z. has xs (z % 2 ^ (n + v))) (extended x) (extended_lt x l) (ap (has xs) (extended_low x l) ∙ h))
        (high_agrees (n + v) (truths n (extended x) args) (extended x)
        (extended_high x l ∙ ap (λ z. pattern (truths n z args)) (sym (extended_low x l)) ∙ ap pattern (sym (same_truths n v args (extended x) below))))

    pub literal_out : (xs : List ℕ) (y : ℕ) → has (with_literal n v args xs) y ≡ true
        → (has xs (y % 2 ^ (n + v)) ≡ true) × (y / 2 ^ (n + v) ≡ pattern (truths n (y % 2 ^ (n + v)) args))
    literal_out xs y e =
        let r = unify_all_out n (n + v) args (widened (n + v) (length args) xs) y e in
        let w = has_kept (2 ^ (n + v + length args)) (λ z. has xs (z % 2 ^ (n + v))) y r.0 in
        let fits : y < 2 ^ (n + v + length (truths n y args)) = subst (λ k. y < 2 ^ (n + v + k)) (sym (length-truths y)) w.0 in
        (w.1, agrees_high (n + v) (truths n y args) y fits r.1 ∙ ap pattern (same_truths n v args y below))

    -- ---- call

    pub call_in : (xs : List ℕ) (x : ℕ) → has xs x ≡ true → x < 2 ^ (n + v) → has (call_of n v args xs) (pattern (truths n x args)) ≡ true
    call_in xs x h l =
        let e = extended_high x l in
        let less : extended x / 2 ^ (n + v) < 2 ^ length args = subst (λ z. z < 2 ^ length args) (sym e) (truths_lt x) in
        subst (λ z. has (call_of n v args xs) z ≡ true) e (later_in (n + v) (length args) (with_literal n v args xs) (extended x) (literal_in xs x h l) less)

    pub call_out : (xs : List ℕ) (a : ℕ) → has (call_of n v args xs) a ≡ true → (x : ℕ) × (has xs x ≡ true) × (pattern (truths n x args) ≡ a)
    call_out xs a e =
        let (y, h, k) = later_out (n + v) (length args) (with_literal n v args xs) a e in
        let r = literal_out xs y h in
        (y % 2 ^ (n + v), r.0, sym r.1 ∙ k)

    -- ---- the answer, and the actions that filter

    pub acted_in : (test : ℕ → Bool) (xs : List ℕ) (x : ℕ) → has xs x ≡ true → x < 2 ^ (n + v) → test (extended x) ≡ true
        → has (acted n v args test xs) x ≡ true
    acted_in test xs x h l t =
        subst (λ z. has (acted n v args test xs) z ≡ true) (extended_low x l)
        (first_in (n + v) (filter test (with_literal n v args xs)) (extended x)
        (has_filter test (with_literal n v args xs) (extended x) (literal_in xs x h l) t))

    pub acted_out : (test : ℕ → Bool) (xs : List ℕ) (x : ℕ) → has (acted n v args test xs) x ≡ true → (has xs x ≡ true) × (test (extended x) ≡ true)
    acted_out test xs x e =
        let (y, h, k) = first_out (n + v) (filter test (with_literal n v args xs)) x e in
        let r = literal_out xs y (filter_within test (with_literal n v args xs) y h) in
        let whole : y ≡ extended x = sym (shr_split y (n + v)) ∙ pair_parts _ _ _ _ (2 ^ (n + v)) (r.1 ∙ ap (λ z. pattern (truths n z args)) k) k in
        (subst (λ z. has xs z ≡ true) k r.0, subst (λ z. test z ≡ true) whole (filter_passes test (with_literal n v args xs) y h))

    pub back_in : (answer xs : List ℕ) (x : ℕ) → has xs x ≡ true → x < 2 ^ (n + v) → has answer (pattern (truths n x args)) ≡ true
        → has (back_of n v args answer xs) x ≡ true
    back_in answer xs x h l t = acted_in (λ y. has answer (y / 2 ^ (n + v))) xs x h l (ap (has answer) (extended_high x l) ∙ t)

    pub back_out : (answer xs : List ℕ) (x : ℕ) → x < 2 ^ (n + v) → has (back_of n v args answer xs) x ≡ true
        → (has xs x ≡ true) × (has answer (pattern (truths n x args)) ≡ true)
    back_out answer xs x l e =
        let r = acted_out (λ y. has answer (y / 2 ^ (n + v))) xs x e in
        (r.0, ap (has answer) (sym (extended_high x l)) ∙ r.1)

-- ---- enter

pub enter_in : (n v : ℕ) (head : List Term) (xs : List ℕ) (z : ℕ) → length head ≡ n → z < 2 ^ (n + v) → has xs (z % 2 ^ n) ≡ true
    → z % 2 ^ n ≡ pattern (truths n z head) → has (enter_of n v head xs) z ≡ true
enter_in n v head xs z len l h e =
    let size : length (truths n z head) ≡ n = length-map head (holds (variable_in n z)) ∙ len in
    unify_all_in n 0 head (widened n v xs) z
    (kept_has (2 ^ (n + v)) (λ x. has xs (x % 2 ^ n)) z l h)
    (low_agrees (truths n z head) z (ap (λ k. z % 2 ^ k) size ∙ e))

pub enter_out : (n v : ℕ) (head : List Term) (xs : List ℕ) (z : ℕ) → length head ≡ n → has (enter_of n v head xs) z ≡ true
    → (z < 2 ^ (n + v)) × (has xs (z % 2 ^ n) ≡ true) × (z % 2 ^ n ≡ pattern (truths n z head))
enter_out n v head xs z len e =
    let size : length (truths n z head) ≡ n = length-map head (holds (variable_in n z)) ∙ len in
    let r = unify_all_out n 0 head (widened n v xs) z e in
    let w = has_kept (2 ^ (n + v)) (λ x. has xs (x % 2 ^ n)) z r.0 in
    (w.0, w.1, ap (λ k. z % 2 ^ k) (sym size) ∙ agrees_low (truths n z head) z r.1)
