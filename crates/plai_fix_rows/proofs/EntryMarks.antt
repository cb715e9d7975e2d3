-- Rows of a table as they are marked as an entry's.
use Rattle.std.proofs.Common.{◌≡◌, ◌⊎◌, ◌↔◌, ℕ, zero, suc, ◌+◌, ◌<◌, Bool, true, false, ◌&&◌, List, [], ◌∷◌, ◌++◌, length, slice_get, Option, Some, None, sym}
use Rattle.std.proofs.Common.{refl, ap, ◌∙◌, subst, inl, inr, arith}
use Rattle.plai_theory.specs.Words.{IsIn, HasSome, item}
use Rattle.plai_theory.specs.Domain.{Name}
use Rattle.plai_terms.specs.declared.abs.Abs.{Abs}
use Rattle.plai_terms.specs.declared.pred_key.PredKey.{PredKey}
use Rattle.plai_domain.specs.Plain.{PlainDomain}
use Rattle.plai_table.specs.Rows.{TableRow, row_changed, with_entry}
use Rattle.plai_eval.specs.Meaning.{as_domain}
use Rattle.plai_fix_laws.specs.WorkStates.{KeptRow, IsNamed, HasLiveRow}
use Rattle.plai_fix_rows.specs.Tables.{key_name, kept_row, kept_rows}
use Rattle.plai_fix_rows.specs.Marks.{AreMarkedAs}
use Rattle.plai_fix_laws.proofs.Places.{has_some}
use Rattle.plai_fix_laws.proofs.LookedUp.{in_left, in_last, in_push}
use Rattle.plai_fix_rows.proofs.TableRows.{kept_at}

module _ (V : Type 0) (value_of : V → Abs) (p : PlainDomain) where
  pub entry_kept : (rows : List (TableRow V)) (n : ℕ) (entry : Bool) → kept_rows value_of p (row_changed (with_entry entry) rows n) ≡ kept_rows value_of p rows
  entry_kept [] n entry = refl
  entry_kept (r ∷ rows) zero entry = refl
  entry_kept (r ∷ rows) (suc n) entry = ap (λ (rest : List (KeptRow (as_domain p))). kept_row value_of p r ∷ rest) (entry_kept rows n entry)

  pub entry_length : (rows : List (TableRow V)) (n : ℕ) (entry : Bool) → length (row_changed (with_entry entry) rows n) ≡ length rows
  entry_length [] n entry = refl
  entry_length (r ∷ rows) zero entry = refl
  entry_length (r ∷ rows) (suc n) entry = ap suc (entry_length rows n entry)

  -- a row of changed rows is the one that was changed, or another one
  changed : (rows : List (TableRow V)) (n m : ℕ) (entry : Bool) (r : TableRow V) → slice_get (row_changed (with_entry entry) rows n) m ≡ Some r
      → ((m ≡ n) × ((q : TableRow V) × (slice_get rows m ≡ Some q) × (with_entry entry q ≡ r))) ⊎ ((m ≡ n → ⊥) × (slice_get rows m ≡ Some r))
  changed [] n m entry r e = cc
  changed (q ∷ rows) zero zero entry r e = let s : with_entry entry q ≡ r = cc in inl (refl, (q, refl, s))
  changed (q ∷ rows) zero (suc m) entry r e = inr (λ s. let l : suc m ≡ 0 = s in absurd (omega arith), e)
  changed (q ∷ rows) (suc n) zero entry r e = inr (λ s. let l : 0 ≡ suc n = s in absurd (omega arith), e)
  changed (q ∷ rows) (suc n) (suc m) entry r e = at (changed rows n m entry r e)
    where
      at : ((m ≡ n) × ((z : TableRow V) × (slice_get rows m ≡ Some z) × (with_entry entry z ≡ r))) ⊎ ((m ≡ n → ⊥) × (slice_get rows m ≡ Some r))
          → ((suc m ≡ suc n) × ((z : TableRow V) × (slice_get rows m ≡ Some z) × (with_entry entry z ≡ r))) ⊎
          ((suc m ≡ suc n → ⊥) × (slice_get rows m ≡ Some r))
      at (inl h) = inl (ap suc h.0, h.1)
      at (inr h) = inr (λ s. h.0 (let l : suc m ≡ suc n = s in omega arith), h.1)

  there : (rows : List (TableRow V)) (n : ℕ) (r : TableRow V) → slice_get rows n ≡ Some r → n < length rows
  there [] n r e = cc
  there (q ∷ rows) zero r e = omega arith
  there (q ∷ rows) (suc n) r e = let l : n < length rows = there rows n r e in omega arith

  -- one more row has no mark
  pub cleared_more : (rows : List (TableRow V)) (n : ℕ) → ((m : ℕ) (r : TableRow V) → m < n → slice_get rows m ≡ Some r → r.entry ≡ false)
      → (m : ℕ) (r : TableRow V) → m < n + 1 → slice_get (row_changed (with_entry false) rows n) m ≡ Some r → r.entry ≡ false
  cleared_more rows n before m r l e = at (changed rows n m false r e)
    where
      at : ((m ≡ n) × ((q : TableRow V) × (slice_get rows m ≡ Some q) × (with_entry false q ≡ r))) ⊎ ((m ≡ n → ⊥) × (slice_get rows m ≡ Some r))
          → r.entry ≡ false
      at (inl h) = let (q, f, s) = h.1 in sym (ap (λ (z : TableRow V). z.entry) s)
      at (inr h) = before m r (let other = h.0 in omega (arith, other)) h.1

  pub cleared_all : (rows : List (TableRow V)) (n : ℕ) → n ≡ length rows → ((m : ℕ) (r : TableRow V) → m < n → slice_get rows m ≡ Some r → r.entry ≡ false)
      → AreMarkedAs value_of [] rows
  cleared_all rows n long before =
      λ m r e. (λ t. let l = there rows m r e in let u : true ≡ false = sym t ∙ before m r (omega arith) e in cc, λ i. absurd i)

  module _ (rows : List (TableRow V)) (names : List (Name PredKey Abs)) (y : Name PredKey Abs) (marked : AreMarkedAs value_of names rows) where
    named : (n : ℕ) (r : TableRow V) → slice_get rows n ≡ Some r → IsNamed (as_domain p) (kept_rows value_of p rows) n (key_name value_of r.name)
    named n r e = has_some (λ (z : KeptRow (as_domain p)). z.name ≡ key_name value_of r.name) (item (kept_rows value_of p rows) n) (kept_row value_of p r)
        (kept_at V value_of p rows n r e) refl

    -- the row of one more name
    pub marked_more : (j : ℕ) → IsNamed (as_domain p) (kept_rows value_of p rows) j y
        → ((i m : ℕ) (x : Name PredKey Abs) → IsNamed (as_domain p) (kept_rows value_of p rows) i x → IsNamed (as_domain p) (kept_rows value_of p rows) m x
        → i ≡ m)
        → AreMarkedAs value_of (names ++ y ∷ []) (row_changed (with_entry true) rows j)
    marked_more j here own = λ n r e. at n r (changed rows j n true r e)
      where
        name_of : (n : ℕ) (q : TableRow V) → slice_get rows n ≡ Some q → n ≡ j → key_name value_of q.name ≡ y
        name_of n q f s = by (item (kept_rows value_of p rows) n) (kept_at V value_of p rows n q f)
            (subst (λ m. IsNamed (as_domain p) (kept_rows value_of p rows) m y) (sym s) here)
          where
            by : (o : Option (KeptRow (as_domain p))) → o ≡ Some (kept_row value_of p q) → HasSome (λ (z : KeptRow (as_domain p)). z.name ≡ y) o
                → key_name value_of q.name ≡ y
            by None e h = absurd h
            by (Some z) e h = let t : z ≡ kept_row value_of p q = cc in sym (ap (λ (w : KeptRow (as_domain p)). w.name) t) ∙ h

        at : (n : ℕ) (r : TableRow V) → ((n ≡ j) × ((q : TableRow V) × (slice_get rows n ≡ Some q) × (with_entry true q ≡ r))) ⊎
            ((n ≡ j → ⊥) × (slice_get rows n ≡ Some r))
            → (r.entry ≡ true) ↔ IsIn (key_name value_of r.name) (names ++ y ∷ [])
        at n r (inl h) =
            let (q, f, s) = h.1 in
            let t : key_name value_of r.name ≡ y = ap (λ (z : TableRow V). key_name value_of z.name) (sym s) ∙ name_of n q f h.0 in
            (λ u. subst (λ x. IsIn x (names ++ y ∷ [])) (sym t) (in_last names y), λ i. sym (ap (λ (z : TableRow V). z.entry) s))
        at n r (inr h) = (
          λ u. in_left names (y ∷ []) (key_name value_of r.name) ((marked n r h.1).0 u),
          λ i. in_push names y (key_name value_of r.name) i (λ k. (marked n r h.1).1 k)
              (λ s. absurd (h.0 (own n j (key_name value_of r.name) (named n r h.1) (subst (IsNamed (as_domain p) (kept_rows value_of p rows) j) s here)))),
        )

    -- one more name without a row
    pub marked_none : ((j : ℕ) → IsNamed (as_domain p) (kept_rows value_of p rows) j y → ⊥) → AreMarkedAs value_of (names ++ y ∷ []) rows
    marked_none absent = λ n r e. (
      λ u. in_left names (y ∷ []) (key_name value_of r.name) ((marked n r e).0 u),
      λ i. in_push names y (key_name value_of r.name) i (λ k. (marked n r e).1 k) (λ s. absurd
          (absent n (subst (IsNamed (as_domain p) (kept_rows value_of p rows) n) (sym s) (named n r e)))),
    )

-- whether each name has a row, with one more name
module _ (p : PlainDomain) (old now : List (KeptRow (as_domain p))) (same : now ≡ old) (names : List (Name PredKey Abs)) (y : Name PredKey Abs) where
  pub all_found : (all found : Bool) → (all ≡ true → (x : Name PredKey Abs) → IsIn x names → HasLiveRow (as_domain p) old x)
      → (found ≡ true → HasLiveRow (as_domain p) now y)
      → (all && found) ≡ true → (x : Name PredKey Abs) → IsIn x (names ++ y ∷ []) → HasLiveRow (as_domain p) old x
  all_found false found h k t = cc
  all_found true false h k t = cc
  all_found true true h k t = λ x i.
      in_push names y x i (h refl x)
      (λ s. subst (HasLiveRow (as_domain p) old) s (subst (λ ks. HasLiveRow (as_domain p) ks y) same (k refl)))

  pub one_absent : (all found : Bool) → (all ≡ false → (x : Name PredKey Abs) × IsIn x names × (HasLiveRow (as_domain p) old x → ⊥))
      → (found ≡ false → HasLiveRow (as_domain p) now y → ⊥)
      → (all && found) ≡ false → (x : Name PredKey Abs) × IsIn x (names ++ y ∷ []) × (HasLiveRow (as_domain p) old x → ⊥)
  one_absent false found h k t = let (x, i, none) = h refl in (x, in_left names (y ∷ []) x i, none)
  one_absent true false h k t = (y, in_last names y, λ has. k refl (subst (λ ks. HasLiveRow (as_domain p) ks y) (sym same) has))
  one_absent true true h k t = cc
