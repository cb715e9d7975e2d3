-- Bits of masks: the all-true one, parts, and patterns.
use Rattle.std.proofs.Common.{◌≡◌, ℕ, zero, suc, ◌+◌, ◌-◌, ◌*◌, ◌/◌, ◌%◌, ◌^◌, ◌≤◌, ◌<◌, Bool, true, false, nat_eq, cond, List, [], ◌∷◌, ◌++◌, length, get_or}
use Rattle.std.proofs.Common.{take, map, sym, ap, ◌∙◌, arith, subst, length-take-le}
use Rattle.std.specs.Int.{bit_at}
use Rattle.std.proofs.lemmas.List.{take_more, map-append, length-map}
use Rattle.std.proofs.lemmas.Bool.{eq-eqb}
use Rattle.std.proofs.lemmas.Nat.{pow_pos, pow-add, shr-shr, shr_split, mod_low, shr_high}
use Rattle.std.proofs.Math.Nat.{pow-suc}
use Rattle.std.proofs.lemmas.Nat.Bits.{bit_at_ones, bit_at_cat_low, bit_at-suc, bit_at_lowest, bit_at-zero}
use Rattle.plai_base.specs.Mask.{has_slot}
use Rattle.plai_base.specs.Mask.{all_true}
use Rattle.plai_base.specs.Mask.{pattern}

pub top_lt : (n : ℕ) → all_true n < 2 ^ n
top_lt n = omega (arith, pow_pos n)

pub top_slot : (n i : ℕ) → i < n → has_slot (all_true n) i ≡ true
top_slot n i l = eq-eqb _ 1 (bit_at_ones n i l)

top_parts : (p q : ℕ) → 0 < p → 0 < q → p * q - 1 ≡ (q - 1) * p + (p - 1)
top_parts zero q h k = absurd (omega arith)
top_parts (suc p) zero h k = absurd (omega arith)
top_parts (suc p) (suc q) h k = grind arith

top_split : (n k : ℕ) → all_true (n + k) ≡ all_true k * 2 ^ n + all_true n
top_split n k = rw (pow-add 2 n k) (top_parts (2 ^ n) (2 ^ k) (pow_pos n) (pow_pos k))

pub top_mod : (n k : ℕ) → all_true (n + k) % 2 ^ n ≡ all_true n
top_mod n k = ap (λ z. z % 2 ^ n) (top_split n k) ∙ mod_low (all_true k) n (all_true n) (top_lt n)

pub top_div : (n k : ℕ) → all_true (n + k) / 2 ^ n ≡ all_true k
top_div n k = ap (λ z. z / 2 ^ n) (top_split n k) ∙ shr_high (all_true k) n (all_true n) (top_lt n)

pub slot_low : (y k i : ℕ) → i < k → has_slot (y % 2 ^ k) i ≡ has_slot y i
slot_low y k i l =
    ap (λ z. nat_eq z 1) (sym (bit_at_cat_low (y / 2 ^ k) k (y % 2 ^ k) i l) ∙ ap (λ z. bit_at z i) (shr_split y k))

pub slot_high : (y k j : ℕ) → has_slot (y / 2 ^ k) j ≡ has_slot y (k + j)
slot_high y k j = ap (λ z. nat_eq (z % 2) 1) (shr-shr y k j)

first_half : (b : Bool) (p : ℕ) → (cond b 1 0 + 2 * p) / 2 ≡ p
first_half true p = omega arith
first_half false p = omega arith

first_bit : (b : Bool) (p : ℕ) → nat_eq ((cond b 1 0 + 2 * p) % 2) 1 ≡ b
first_bit true p = eq-eqb _ 1 (omega arith)
first_bit false p = let e : (0 + 2 * p) % 2 ≡ 0 = omega arith in ap (λ z. nat_eq z 1) e

pub pattern_lt : (bs : List Bool) → pattern bs < 2 ^ length bs
pattern_lt [] = omega arith
pattern_lt (b ∷ bs) = rw (pow-suc 2 (length bs)) (pattern_lt_step b (pattern bs) (2 ^ length bs) (pattern_lt bs))
  where
    pattern_lt_step : (b : Bool) (p q : ℕ) → p < q → cond b 1 0 + 2 * p < q * 2
    pattern_lt_step true p q l = omega arith
    pattern_lt_step false p q l = omega arith

pub pattern_slot : (bs : List Bool) (i : ℕ) → has_slot (pattern bs) i ≡ get_or bs i false
pattern_slot [] i = ap (λ z. nat_eq z 1) (bit_at-zero i)
pattern_slot (b ∷ bs) zero = ap (λ z. nat_eq z 1) (bit_at_lowest (pattern (b ∷ bs))) ∙ first_bit b (pattern bs)
pattern_slot (b ∷ bs) (suc i) =
    ap (λ z. nat_eq z 1) (bit_at-suc (pattern (b ∷ bs)) i ∙ ap (λ z. bit_at z i) (first_half b (pattern bs)))
    ∙ pattern_slot bs i

append_step : (c p q w : ℕ) → c + 2 * (q * w + p) ≡ q * (w * 2) + (c + 2 * p)
append_step c p q w = grind arith

pub pattern-append : (xs ys : List Bool) → pattern (xs ++ ys) ≡ pattern ys * 2 ^ length xs + pattern xs
pattern-append [] ys = omega arith
pattern-append (x ∷ xs) ys =
    ap (λ z. cond x 1 0 + 2 * z) (pattern-append xs ys)
    ∙ append_step (cond x 1 0) (pattern xs) (pattern ys) (2 ^ length xs)
    ∙ ap (λ z. pattern ys * z + (cond x 1 0 + 2 * pattern xs)) (sym (pow-suc 2 (length xs)))

-- one more term at the end
pattern_last : (bs : List Bool) (b : Bool) → pattern (bs ++ b ∷ []) ≡ pattern bs + cond b (2 ^ length bs) 0
pattern_last bs true = pattern-append bs (true ∷ []) ∙ omega arith
pattern_last bs false = pattern-append bs (false ∷ []) ∙ omega arith

pub pattern_more : {X : Type 0} (f : X → Bool) (xs : List X) (i : ℕ) (d : X) → i < length xs
    → pattern (map f (take (i + 1) xs)) ≡ pattern (map f (take i xs)) + cond (f (get_or xs i d)) (2 ^ i) 0
pattern_more f xs i d l =
    let size : length (map f (take i xs)) ≡ i = length-map (take i xs) f ∙ length-take-le i xs (omega arith) in
    ap (λ l. pattern (map f l)) (take_more xs i d l)
    ∙ ap pattern (map-append f (take i xs) (get_or xs i d ∷ []))
    ∙ pattern_last (map f (take i xs)) (f (get_or xs i d))
    ∙ ap (λ k. pattern (map f (take i xs)) + cond (f (get_or xs i d)) (2 ^ k) 0) size

pub pattern_with : {X : Type 0} (f : X → Bool) (xs : List X) (i : ℕ) (d : X) → i < length xs → f (get_or xs i d) ≡ true
    → pattern (map f (take (i + 1) xs)) ≡ pattern (map f (take i xs)) + 2 ^ i
pattern_with f xs i d l e = pattern_more f xs i d l ∙ ap (λ b. pattern (map f (take i xs)) + cond b (2 ^ i) 0) e

pub pattern_without : {X : Type 0} (f : X → Bool) (xs : List X) (i : ℕ) (d : X) → i < length xs → f (get_or xs i d) ≡ false
    → pattern (map f (take (i + 1) xs)) ≡ pattern (map f (take i xs))
pattern_without f xs i d l e = pattern_more f xs i d l ∙ ap (λ b. pattern (map f (take i xs)) + cond b (2 ^ i) 0) e ∙ omega arith

pub pattern_prefix_lt : {X : Type 0} (f : X → Bool) (xs : List X) (i : ℕ) → i ≤ length xs → pattern (map f (take i xs)) < 2 ^ i
pattern_prefix_lt f xs i l = subst (λ k. pattern (map f (take i xs)) < 2 ^ k) (length-map (take i xs) f ∙ length-take-le i xs l)
    (pattern_lt (map f (take i xs)))
