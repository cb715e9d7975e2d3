-- The numbers of one to six decimal digits.
use Rattle.std.proofs.Common.{◌≡◌, ℕ, ◌+◌, ◌-◌, ◌*◌, ◌^◌, ◌<◌, ◌≤◌, List, [], ◌∷◌, Bool, true, false, refl, length, get_or, drop, arith, zero, suc, add-one}
use Rattle.std.proofs.Math.Nat.{pow-suc, pow-le-pow_right}
use Rattle.std.proofs.lemmas.Bool.{false≢true}
use Rattle.std.proofs.lemmas.List.{at_drop_more, at_drop_all}
use Rattle.std.specs.Prelude.{◌&&◌}
use Rattle.std.specs.List.{list_all}
use Rattle.plai_words.specs.Numbers.{is_digit, is_short_numeral, decimal}

both_true : (a b : Bool) → (a && b) ≡ true → (a ≡ true) × (b ≡ true)
both_true true b h = (refl, h)
both_true false b h = absurd (false≢true h)

pub digit_at : (bs : List ℕ) (i : ℕ) → list_all is_digit bs ≡ true → i < length bs → is_digit (get_or bs i 0) ≡ true
digit_at [] i h l = absurd (omega arith)
digit_at (c ∷ cs) zero h l = (both_true (is_digit c) (list_all is_digit cs) h).0
digit_at (c ∷ cs) (suc i) h l = digit_at cs i (both_true (is_digit c) (list_all is_digit cs) h).1 (omega arith)

pub digit_range : (c : ℕ) → is_digit c ≡ true → (48 ≤ c) × (c ≤ 57)
digit_range c h = grind arith

pub short_parts : (bs : List ℕ) → is_short_numeral bs ≡ true → (length bs ≤ 6) × (list_all is_digit bs ≡ true)
unfolding is_short_numeral
short_parts bs h = grind arith

-- one more digit has room
pub room : (v i n : ℕ) → v < 10 ^ i → i < n → n ≤ 6 → (10 * v + 9 < 10 ^ (i + 1)) × (10 * v + 9 < 1000000)
room v i n b l s =
    let e : 10 ^ suc i ≡ 10 ^ i * 10 = pow-suc 10 i in
    let same : 10 ^ (i + 1) ≡ 10 ^ i * 10 = rw (add-one i) e in
    let m : 10 ^ (i + 1) ≤ 10 ^ 6 = pow-le-pow_right {n = 10} (omega arith) {i = i + 1} {j = 6} (omega arith) in
    (omega (arith, same), omega (arith, same, m))

pub decimal_more : (v : ℕ) (bs : List ℕ) (i : ℕ) → i < length bs
    → decimal v (drop i bs) ≡ decimal (10 * v + (get_or bs i 0 - 48)) (drop (i + 1) bs)
unfolding decimal
decimal_more v bs i l = at_drop_more (decimal v) bs i 0 l

pub decimal_all : (v : ℕ) (bs : List ℕ) (i : ℕ) → length bs ≤ i → decimal v (drop i bs) ≡ v
unfolding decimal
decimal_all v bs i l = at_drop_all (decimal v) bs i l
