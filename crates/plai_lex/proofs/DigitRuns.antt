-- Reading digits from the left.
use Rattle.std.proofs.Common.{◌≡◌, ℕ, suc, ◌+◌, ◌*◌, ◌^◌, ◌<◌, ◌≤◌, true, false, List, ◌∷◌, length, drop, get_or, refl, arith, drop-cons, add-one}
use Rattle.std.specs.Char.{digit_value}
use Rattle.std.proofs.Math.Numerals.{one-add}
use Rattle.std.proofs.Math.Nat.{pow-succ', one-le-pow, mul-le-mul_left}
use Rattle.std.proofs.lemmas.Bool.{lt-ltb}
use Rattle.std.proofs.lemmas.List.Folds.{length-prefix_len}
use Rattle.plai_lex.specs.declared.digits.Digits.{Digits}
use Rattle.plai_lex.specs.Numbers.{digits_at, is_digit_of}

-- `count` digits are read, with this value; `rest` are those behind them, of `all`
pub record Reads (base value count : ℕ) (rest all : Digits) : Type 0 where
  pub number : value * base ^ rest.len + rest.value ≡ all.value
  pub digits : count + rest.len ≡ all.len

-- the first of some digits
first-len : (base b : ℕ) (bs : List ℕ) → is_digit_of base b ≡ true → (digits_at base (b ∷ bs)).len ≡ suc (digits_at base bs).len
first-len base b bs h = rw h (one-add _)

first-value : (base b : ℕ) (bs : List ℕ) → is_digit_of base b ≡ true
    → (digits_at base (b ∷ bs)).value ≡ digit_value b * base ^ (digits_at base bs).len + (digits_at base bs).value
first-value base b bs h = rw (h, one-add, length-prefix_len (is_digit_of base) bs) refl

-- no digit
none-value : (base b : ℕ) (bs : List ℕ) → is_digit_of base b ≡ false → (digits_at base (b ∷ bs)).value ≡ 0
none-value base b bs h = rw h refl

none-len : (base b : ℕ) (bs : List ℕ) → is_digit_of base b ≡ false → (digits_at base (b ∷ bs)).len ≡ 0
none-len base b bs h = rw h refl

-- one more digit of a number
one-more : (base value count digit : ℕ) (rest old all : Digits) → old.len ≡ suc rest.len → old.value ≡ digit * base ^ rest.len + rest.value
    → Reads base value count old all → Reads base (value * base + digit) (suc count) rest all
one-more base value count digit rest old all len number reads =
    let e : value * (base * base ^ rest.len) + (digit * base ^ rest.len + rest.value) ≡ all.value =
    rw (← number, ← pow-succ' base rest.len, ← len) reads.number in
    record { number = omega (arith, e); digits = omega (arith, len, reads.digits) }

pub starts : (base : ℕ) (all : Digits) → Reads base 0 0 all all
starts base all = record { number = omega arith; digits = omega arith }

-- a digit is read
pub goes_on : (base value i b digit more : ℕ) (text : List ℕ) (all : Digits) → i < length text → b ≡ get_or text i 0
    → digit_value b < base → digit ≡ digit_value b → more ≡ value * base + digit
    → Reads base value i (digits_at base (drop i text)) all → Reads base more (i + 1) (digits_at base (drop (i + 1) text)) all
goes_on base value i b digit more text all inside at small d m reads =
    let is : is_digit_of base b ≡ true = lt-ltb _ _ small in
    let split : drop i text ≡ b ∷ drop (suc i) text = rw at (drop-cons text i 0 inside) in
    let old : Reads base value i (digits_at base (b ∷ drop (suc i) text)) all = rw split at reads in
    rw (add-one i, m, d) (one-more base value i (digit_value b) (digits_at base (drop (suc i) text)) (digits_at base (b ∷ drop (suc i) text)) all
    (first-len base b _ is) (first-value base b _ is) old)

-- what is read is no more than the whole number
read-le : (base value count : ℕ) (rest all : Digits) → 2 ≤ base → Reads base value count rest all → value ≤ all.value
read-le base value count rest all large reads =
    let one : 1 ≤ base ^ rest.len = one-le-pow rest.len base (omega arith) in
    omega (arith, reads.number, mul-le-mul_left value one)

-- a digit that makes the number too large
pub goes_over : (base value i b digit limit : ℕ) (text : List ℕ) (all : Digits) → 2 ≤ base → i < length text → b ≡ get_or text i 0
    → digit_value b < base → digit ≡ digit_value b → (value * base + digit ≤ limit → ⊥)
    → Reads base value i (digits_at base (drop i text)) all → limit < all.value
goes_over base value i b digit limit text all large inside at small d over reads =
    let all-le : value * base + digit ≤ all.value = read-le base _ (i + 1) (digits_at base (drop (i + 1) text)) all large
    (goes_on base value i b digit (value * base + digit) text all inside at small d refl reads) in
    omega (arith, over, all-le)
