-- Rows that are made dormant or live, one after another.
use Rattle.std.proofs.Common.{◌≡◌, ℕ, zero, suc, ◌+◌, ◌<◌, ◌≤◌, false, List, [], ◌∷◌, map, length, slice_get, Some, sym, refl, ap, ◌∙◌, arith}
use Rattle.plai_table.specs.Rows.{TableRow, row_changed}
use Rattle.plai_repair.specs.Opened.{slept, AreAsleep}

module _ {V : Type 0} where
  -- the first rows are changed
  abbrev pub changed_to : (TableRow V → TableRow V) → ℕ → List (TableRow V) → List (TableRow V)
  changed_to f zero rows = rows
  changed_to f (suc n) [] = []
  changed_to f (suc n) (r ∷ rows) = f r ∷ changed_to f n rows

  changed_more : (f : TableRow V → TableRow V) (rows : List (TableRow V)) (n : ℕ) → row_changed f (changed_to f n rows) n ≡ changed_to f (n + 1) rows
  changed_more f rows n = at rows n ∙ ap (λ m. changed_to f m rows) (let e : suc n ≡ n + 1 = omega arith in e)
    where
      at : (rows : List (TableRow V)) (n : ℕ) → row_changed f (changed_to f n rows) n ≡ changed_to f (suc n) rows
      at [] zero = refl
      at [] (suc n) = refl
      at (r ∷ rows) zero = refl
      at (r ∷ rows) (suc n) = ap (λ (rest : List (TableRow V)). f r ∷ rest) (at rows n)

  changed_twice : (f g : TableRow V → TableRow V) (rows : List (TableRow V)) (n : ℕ)
      → row_changed g (row_changed f rows n) n ≡ row_changed (λ r. g (f r)) rows n
  changed_twice f g [] n = refl
  changed_twice f g (r ∷ rows) zero = refl
  changed_twice f g (r ∷ rows) (suc n) = ap (λ (rest : List (TableRow V)). r ∷ rest) (changed_twice f g rows n)

  changed_all : (f : TableRow V → TableRow V) (rows : List (TableRow V)) (n : ℕ) → length rows ≤ n → changed_to f n rows ≡ map f rows
  changed_all f [] zero h = refl
  changed_all f [] (suc n) h = refl
  changed_all f (r ∷ rows) zero h = absurd (omega (arith, h))
  changed_all f (r ∷ rows) (suc n) h = ap (λ (rest : List (TableRow V)). f r ∷ rest) (changed_all f rows n (omega (arith, h)))

  long_to : (f : TableRow V → TableRow V) (rows : List (TableRow V)) (n : ℕ) → length (changed_to f n rows) ≡ length rows
  long_to f rows zero = refl
  long_to f [] (suc n) = refl
  long_to f (r ∷ rows) (suc n) = ap suc (long_to f rows n)

  long_changed : (f : TableRow V → TableRow V) (rows : List (TableRow V)) (n : ℕ) → length (row_changed f rows n) ≡ length rows
  long_changed f [] n = refl
  long_changed f (r ∷ rows) zero = refl
  long_changed f (r ∷ rows) (suc n) = ap suc (long_changed f rows n)

  -- one more row is changed
  pub changed_next : (f : TableRow V → TableRow V) (rows before now : List (TableRow V)) (n : ℕ) → now ≡ row_changed f before n → before ≡ changed_to f n rows
      → now ≡ changed_to f (n + 1) rows
  changed_next f rows before now n e h = e ∙ ap (λ (xs : List (TableRow V)). row_changed f xs n) h ∙ changed_more f rows n

  pub changed_next_twice : (f g : TableRow V → TableRow V) (rows before mid now : List (TableRow V)) (n : ℕ) → now ≡ row_changed g mid n
      → mid ≡ row_changed f before n → before ≡ changed_to (λ r. g (f r)) n rows → now ≡ changed_to (λ r. g (f r)) (n + 1) rows
  changed_next_twice f g rows before mid now n e k h =
      changed_next (λ r. g (f r)) rows before now n (e ∙ ap (λ (xs : List (TableRow V)). row_changed g xs n) k ∙ changed_twice f g before n) h

  pub changed_end : (f : TableRow V → TableRow V) (rows now : List (TableRow V)) (n : ℕ) → now ≡ changed_to f n rows → length rows ≤ n → now ≡ map f rows
  changed_end f rows now n e h = e ∙ changed_all f rows n h

  -- the next row is there
  pub next_within : (f : TableRow V → TableRow V) (rows now : List (TableRow V)) (n : ℕ) → now ≡ changed_to f n rows → n < length rows → n < length now
  next_within f rows now n e h = let l = ap length e in let k = long_to f rows n in omega (arith, l, k, h)

  pub still_within : (f : TableRow V → TableRow V) (rows now : List (TableRow V)) (n : ℕ) → now ≡ row_changed f rows n → n < length rows → n < length now
  still_within f rows now n e h = let l = ap length e in let k = long_changed f rows n in omega (arith, l, k, h)

  pub all_asleep : (rows : List (TableRow V)) → AreAsleep (map slept rows)
  all_asleep rows = record { dormant = λ n r e. (is rows n r e).0; unmarked = λ n r e. (is rows n r e).1 }
    where
      is : (rows : List (TableRow V)) (n : ℕ) (r : TableRow V) → slice_get (map slept rows) n ≡ Some r → (r.live ≡ false) × (r.entry ≡ false)
      is [] n r e = cc
      is (q ∷ rows) zero r e = let s : slept q ≡ r = cc in (sym (ap (λ (z : TableRow V). z.live) s), sym (ap (λ (z : TableRow V). z.entry) s))
      is (q ∷ rows) (suc n) r e = is rows n r e
