-- Rows of a table as rows that are kept.
use Rattle.std.proofs.Common.{◌≡◌, ℕ, zero, suc, ◌<◌, ◌≤◌, Bool, true, false, List, [], ◌∷◌, ◌++◌, length, slice_get, Some, IsSome, refl, ap, arith}
use Rattle.plai_theory.specs.Words.{given, item}
use Rattle.plai_terms.specs.declared.abs.Abs.{Abs}
use Rattle.plai_domain.specs.declared.key.Key.{Key}
use Rattle.plai_domain.specs.Plain.{PlainDomain}
use Rattle.plai_table.specs.Rows.{TableRow, names_of, live_count, row_changed, with_live}
use Rattle.plai_eval.specs.Meaning.{as_domain}
use Rattle.plai_fix_laws.specs.WorkStates.{KeptRow, IsNamed, is_live, kept_live}
use Rattle.plai_fix_laws.specs.Changes.{kept_woken}
use Rattle.plai_fix_rows.specs.Tables.{key_name, kept_row, kept_rows}
use Rattle.plai_fix_laws.proofs.Lists.{length_map, count_map}

pub not_full : (live limit : ℕ) → (limit ≤ live → ⊥) → live < limit
not_full live limit h = omega (arith, h)

module _ (V : Type 0) (value_of : V → Abs) (p : PlainDomain) where
  pub named_at : (rows : List (TableRow V)) (n : ℕ) (name : Key V) → slice_get (names_of rows) n ≡ Some name
      → IsNamed (as_domain p) (kept_rows value_of p rows) n (key_name value_of name)
  named_at [] n name e = cc
  named_at (r ∷ rows) zero name e = let s : r.name ≡ name = cc in ap (key_name value_of) s
  named_at (r ∷ rows) (suc n) name e = named_at rows n name e

  pub name_there : (rows : List (TableRow V)) (n : ℕ) → n < length rows → (name : Key V) × (slice_get (names_of rows) n ≡ Some name)
  name_there [] n h = absurd (omega arith)
  name_there (r ∷ rows) zero h = (r.name, refl)
  name_there (r ∷ rows) (suc n) h = name_there rows n (omega arith)

  pub row_there : (rows : List (TableRow V)) (n : ℕ) → n < length rows → (r : TableRow V) × (slice_get rows n ≡ Some r)
  row_there [] n h = absurd (omega arith)
  row_there (r ∷ rows) zero h = (r, refl)
  row_there (r ∷ rows) (suc n) h = row_there rows n (omega arith)

  pub is_there : (rows : List (TableRow V)) (n : ℕ) → IsSome (item (kept_rows value_of p rows) n) → n < length rows
  is_there [] n h = cc
  is_there (r ∷ rows) zero h = omega arith
  is_there (r ∷ rows) (suc n) h = let l : n < length rows = is_there rows n h in omega arith

  pub kept_at : (rows : List (TableRow V)) (n : ℕ) (r : TableRow V) → slice_get rows n ≡ Some r
      → item (kept_rows value_of p rows) n ≡ Some (kept_row value_of p r)
  kept_at [] n r e = cc
  kept_at (q ∷ rows) zero r e = let s : q ≡ r = cc in ap (λ (z : TableRow V). Some (kept_row value_of p z)) s
  kept_at (q ∷ rows) (suc n) r e = kept_at rows n r e

  -- it is live where the row is
  pub live_of : (rows : List (TableRow V)) (n : ℕ) (r : TableRow V) → slice_get rows n ≡ Some r
      → is_live (as_domain p) (kept_rows value_of p rows) n ≡ r.live
  live_of rows n r e = ap (given false (λ (z : KeptRow (as_domain p)). z.live)) (kept_at rows n r e)

  pub none_of : (rows : List (TableRow V)) (n : ℕ) → length rows ≤ n → is_live (as_domain p) (kept_rows value_of p rows) n ≡ false
  none_of [] n h = refl
  none_of (r ∷ rows) zero h = absurd (omega arith)
  none_of (r ∷ rows) (suc n) h = none_of rows n (omega arith)

  -- where one is woken
  pub woken_rows : (rows : List (TableRow V)) (n : ℕ) → kept_rows value_of p (row_changed (with_live true) rows n)
      ≡ kept_woken (as_domain p) (kept_rows value_of p rows) n
  woken_rows [] n = refl
  woken_rows (r ∷ rows) zero = refl
  woken_rows (r ∷ rows) (suc n) = ap (λ rest. kept_row value_of p r ∷ rest) (woken_rows rows n)

  -- a name behind the others
  pub last_name : (rows : List (TableRow V)) (r : TableRow V) → slice_get (names_of (rows ++ r ∷ [])) (length rows) ≡ Some r.name
  last_name [] r = refl
  last_name (q ∷ rows) r = last_name rows r

  -- as many rows are live
  pub kept_lives : (rows : List (TableRow V)) → kept_live (as_domain p) (kept_rows value_of p rows) ≡ live_count rows
  kept_lives rows = count_map (kept_row value_of p) (λ (k : KeptRow (as_domain p)). k.live) rows

  pub kept_length : (rows : List (TableRow V)) → length (kept_rows value_of p rows) ≡ length rows
  kept_length rows = length_map (kept_row value_of p) rows

  -- a row that is not there yet has no dirty pair
  pub fresh_row : (rows : List (TableRow V)) (dirty : ℕ → ℕ → Bool) → ((n m : ℕ) → dirty n m ≡ true → n < length (kept_rows value_of p rows)) → (m : ℕ)
      → dirty (length rows) m ≡ false
  fresh_row rows dirty of_rows m = at (dirty (length rows) m) refl
    where
      at : (b : Bool) → dirty (length rows) m ≡ b → b ≡ false
      at true e = let l = of_rows (length rows) m e in let k = kept_length rows in absurd (omega arith)
      at false e = refl
