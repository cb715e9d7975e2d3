-- What `enter` gives, variable assignment by variable assignment.
use Rattle.std.proofs.Common.{◌≡◌, ℕ, zero, suc, ◌+◌, ◌*◌, ◌/◌, ◌%◌, ◌^◌, ◌<◌, Bool, true, false, ◌&&◌, nat_eq, nat_lt, cond, List, [], ◌∷◌, ◌++◌, length}
use Rattle.std.proofs.Common.{map, inl, inr, refl, sym, ap, ◌∙◌, arith, subst}
use Rattle.std.proofs.lemmas.Bool.{eq-eqb, eqb-true, ne_eqb, and_parts, and_from, and_right, cases_order, lt-ltb, le-ltb}
use Rattle.std.proofs.lemmas.List.{length-map, append-nil}
use Rattle.std.proofs.lemmas.Nat.{mod_low, shr_high}
use Rattle.plai_base.specs.Mask.{has_slot, pattern}
use Rattle.plai_base.specs.Sets.{has, kept, IsSet}
use Rattle.plai_base.proofs.Sets.{by_test, same_tests, is_kept, IsSet-kept, IsSet-filter, kept_next}
use Rattle.plai_base.proofs.Bits.{slot_high, pattern_lt}
use Rattle.plai_terms.specs.declared.term.Term.{Term}
use Rattle.plai_pos_laws.specs.Assignments.{agree, holds, variable_in, unify, unify_all, widened, enter_of}
use Rattle.plai_pos_laws.specs.Truths.{pattern_of, truths, enters}
use Rattle.plai_pos_laws.proofs.Holds.{map_holds_alike}
use Rattle.plai_pos_laws.proofs.Direct.{enter_in, enter_out}

pub IsSet-unify_all : (b n slot : ℕ) (terms : List Term) (xs : List ℕ) → IsSet b xs → IsSet b (unify_all n slot terms xs)
IsSet-unify_all b n slot [] xs s = s
IsSet-unify_all b n slot (t ∷ ts) xs s =
    IsSet-unify_all b n (suc slot) ts (unify n slot t xs) (IsSet-filter b (λ x. agree (has_slot x slot) (holds (variable_in n x) t)) xs s)

-- the truths of terms read the slots behind the first n
pub truths_high : (n z : ℕ) (terms : List Term) → truths n z terms ≡ map (holds (has_slot (z / 2 ^ n))) terms
truths_high n z terms = map_holds_alike (variable_in n z) (has_slot (z / 2 ^ n)) (λ v. sym (slot_high z n v)) terms

pub enter_is : (n v : ℕ) (head : List Term) (xs : List ℕ) → length head ≡ n → enter_of n v head xs ≡ kept (2 ^ (n + v)) (enters n head xs)
enter_is n v head xs len =
    is_kept (2 ^ (n + v)) (enter_of n v head xs) (enters n head xs)
    (IsSet-unify_all (2 ^ (n + v)) n 0 head (widened n v xs) (IsSet-kept (2 ^ (n + v)) (λ x. has xs (x % 2 ^ n))))
    (λ z l. same_tests _ _
    (λ e.
    let r = enter_out n v head xs z len e in
    and_from _ _ r.1 (eq-eqb _ _ (sym (ap pattern (truths_high n z head)) ∙ sym r.2)))
    (λ e.
    let r = and_parts (has xs (z % 2 ^ n)) (nat_eq (pattern_of head (z / 2 ^ n)) (z % 2 ^ n)) e in
    enter_in n v head xs z len l r.0 (sym (eqb-true _ _ r.1) ∙ sym (ap pattern (truths_high n z head)))))

pub pattern_of_lt : (terms : List Term) (y : ℕ) → pattern_of terms y < 2 ^ length terms
pattern_of_lt terms y =
    subst (λ k. pattern_of terms y < 2 ^ k) (length-map terms (holds (has_slot y))) (pattern_lt (map (holds (has_slot y)) terms))

-- ---- a block of masks with at most one that passes

abbrev block_test : Bool → ℕ → ℕ → Bool
block_test c a w = c && nat_lt a w

last_step : (xs : List ℕ) (b w a : ℕ) (c : Bool)
    → (xs ++ cond (block_test c a w) ((b + a) ∷ []) []) ++ cond (c && nat_eq a w) ((b + w) ∷ []) [] ≡ xs ++ cond (block_test c a (suc w)) ((b + a) ∷ []) []
last_step xs b w a false = append-nil (xs ++ [])
last_step xs b w a true = elim (cases_order a w) [
  | inl e ↦
      let p : nat_lt a w ≡ false = le-ltb a w (omega (arith, e)) in
      let q : nat_eq a w ≡ true = eq-eqb a w e in
      let r : nat_lt a (suc w) ≡ true = lt-ltb a (suc w) (omega (arith, e)) in
      rw (p, q, r) (rw e (ap (λ l. l ++ (b + w) ∷ []) (append-nil xs)))
  | inr (inl l) ↦
      let p : nat_lt a w ≡ true = lt-ltb a w l in
      let q : nat_eq a w ≡ false = ne_eqb a w (λ e. absurd (omega (arith, e, l))) in
      let r : nat_lt a (suc w) ≡ true = lt-ltb a (suc w) (omega (arith, l)) in
      rw (p, q, r) (append-nil (xs ++ (b + a) ∷ []))
  | inr (inr l) ↦
      let p : nat_lt a w ≡ false = le-ltb a w (omega (arith, l)) in
      let q : nat_eq a w ≡ false = ne_eqb a w (λ e. absurd (omega (arith, e, l))) in
      let r : nat_lt a (suc w) ≡ false = le-ltb a (suc w) (omega (arith, l)) in
      rw (p, q, r) (append-nil (xs ++ []))
]

block : (b w a : ℕ) (c : Bool) (t : ℕ → Bool) → ((i : ℕ) → i < w → t (b + i) ≡ (c && nat_eq a i))
    → kept (b + w) t ≡ kept b t ++ cond (block_test c a w) ((b + a) ∷ []) []
block b zero a c t h =
    let e : b + 0 ≡ b = omega arith in
    let p : block_test c a 0 ≡ false = and_right c (nat_lt a 0) (le-ltb a 0 (omega arith)) in
    ap (λ k. kept k t) e ∙ sym (append-nil (kept b t)) ∙ ap (λ x. kept b t ++ cond x ((b + a) ∷ []) []) (sym p)
block b (suc w) a c t h =
    let e : b + suc w ≡ b + w + 1 = omega arith in
    ap (λ k. kept k t) e
    ∙ kept_next (b + w) t
    ∙ ap (λ x. kept (b + w) t ++ cond x ((b + w) ∷ []) []) (h w (omega arith))
    ∙ ap (λ l. l ++ cond (c && nat_eq a w) ((b + w) ∷ []) []) (block b w a c t (λ i l. h i (omega (arith, l))))
    ∙ last_step (kept b t) b w a c

module _ (n : ℕ) (head : List Term) (xs : List ℕ) (len : length head ≡ n) (y : ℕ) where
  at_block : (i : ℕ) → i < 2 ^ n → enters n head xs (y * 2 ^ n + i) ≡ (has xs (pattern_of head y) && nat_eq (pattern_of head y) i)
  at_block i l =
      let p = mod_low y n i l in
      let q = shr_high y n i l in
      let whole : enters n head xs (y * 2 ^ n + i) ≡ (has xs i && nat_eq (pattern_of head y) i) = rw (p, q) refl in
      whole ∙ by_test (nat_eq (pattern_of head y) i)
      (λ e. ap (λ k. has xs k && nat_eq (pattern_of head y) i) (sym (eqb-true _ _ e)))
      (λ e. and_right (has xs i) _ e ∙ sym (and_right (has xs (pattern_of head y)) _ e))

  fits : nat_lt (pattern_of head y) (2 ^ n) ≡ true
  fits = lt-ltb _ _ (subst (λ k. pattern_of head y < 2 ^ k) len (pattern_of_lt head y))

  pub enter_next : kept ((y + 1) * 2 ^ n) (enters n head xs)
      ≡ kept (y * 2 ^ n) (enters n head xs) ++ cond (has xs (pattern_of head y)) ((y * 2 ^ n + pattern_of head y) ∷ []) []
  enter_next =
      let e : (y + 1) * 2 ^ n ≡ y * 2 ^ n + 2 ^ n = omega arith in
      ap (λ k. kept k (enters n head xs)) e
      ∙ block (y * 2 ^ n) (2 ^ n) (pattern_of head y) (has xs (pattern_of head y)) (enters n head xs) at_block
      ∙ ap (λ b. kept (y * 2 ^ n) (enters n head xs) ++ cond b ((y * 2 ^ n + pattern_of head y) ∷ []) [])
      (ap (λ b. has xs (pattern_of head y) && b) fits ∙ and_true (has xs (pattern_of head y)))
    where
      and_true : (b : Bool) → (b && true) ≡ b
      and_true true = refl
      and_true false = refl

  pub enter_with : has xs (pattern_of head y) ≡ true
      → kept ((y + 1) * 2 ^ n) (enters n head xs) ≡ kept (y * 2 ^ n) (enters n head xs) ++ (y * 2 ^ n + pattern_of head y) ∷ []
  enter_with e = enter_next ∙ ap (λ b. kept (y * 2 ^ n) (enters n head xs) ++ cond b ((y * 2 ^ n + pattern_of head y) ∷ []) []) e

  pub enter_without : has xs (pattern_of head y) ≡ false → kept ((y + 1) * 2 ^ n) (enters n head xs) ≡ kept (y * 2 ^ n) (enters n head xs)
  enter_without e = enter_next ∙ ap (λ b. kept (y * 2 ^ n) (enters n head xs) ++ cond b ((y * 2 ^ n + pattern_of head y) ∷ []) []) e ∙ append-nil _
