-- Marks of clauses of rows.
use Rattle.std.proofs.Common.{◌≡◌, ℕ, ◌<◌, ◌≤◌, Bool, true, false, cond, ◌&&◌, ◌||◌, not, nat_eq, List, length, slice_set, slice_index_or, refl, sym, ap, ◌∙◌}
use Rattle.std.proofs.Common.{subst}
use Rattle.std.proofs.lemmas.Bool.{eqb-true}
use Rattle.plai_arcs.specs.declared.dirty_row.DirtyRow.{DirtyRow}
use Rattle.plai_arcs.specs.Flags.{flag_at}
use Rattle.plai_arcs.specs.Dirty.{dirty_at}
use Rattle.plai_arcs.proofs.PlaceLemmas.{at_written, at_past, at_index, marked_at, unmarked_at}

pub row_marked : (rows : List DirtyRow) (row clause : ℕ) (new e : DirtyRow) → row < length rows
    → ((k : ℕ) → flag_at new.flags.items k ≡ (nat_eq k clause || flag_at (slice_index_or rows row e).flags.items k))
    → (r c : ℕ) → dirty_at (slice_set rows row new) r c ≡ ((nat_eq r row && nat_eq c clause) || dirty_at rows r c)
row_marked rows row clause new e h says r c =
    at_written (λ (d : DirtyRow). flag_at d.flags.items c) false rows row new e (λ b. nat_eq c clause || b) h (says c) r
    ∙ marked_at (nat_eq r row) (dirty_at rows r c) (nat_eq c clause)

pub row_unmarked : (rows : List DirtyRow) (row clause : ℕ) (new e : DirtyRow) → row < length rows
    → ((k : ℕ) → flag_at new.flags.items k ≡ (not (nat_eq k clause) && flag_at (slice_index_or rows row e).flags.items k))
    → (r c : ℕ) → dirty_at (slice_set rows row new) r c ≡ (not (nat_eq r row && nat_eq c clause) && dirty_at rows r c)
row_unmarked rows row clause new e h says r c =
    at_written (λ (d : DirtyRow). flag_at d.flags.items c) false rows row new e (λ b. not (nat_eq c clause) && b) h (says c) r
    ∙ unmarked_at (nat_eq r row) (dirty_at rows r c) (nat_eq c clause)

pub past_unmarked : (rows : List DirtyRow) (row clause : ℕ) → length rows ≤ row
    → (r c : ℕ) → dirty_at rows r c ≡ (not (nat_eq r row && nat_eq c clause) && dirty_at rows r c)
past_unmarked rows row clause h r c = by (nat_eq r row) refl
  where
    by_clause : (b : Bool) → false ≡ (not b && false)
    by_clause true = refl
    by_clause false = refl

    by : (b : Bool) → nat_eq r row ≡ b → dirty_at rows r c ≡ (not (b && nat_eq c clause) && dirty_at rows r c)
    by true t =
        let none : dirty_at rows r c ≡ false = at_past (λ (d : DirtyRow). flag_at d.flags.items c) false rows r
        (subst (λ j. length rows ≤ j) (sym (eqb-true r row t)) h) in
        subst (λ x. x ≡ (not (nat_eq c clause) && x)) (sym none) (by_clause (nat_eq c clause))
    by false t = refl

-- the marks of a row are those of its item
pub row_marks : (rows : List DirtyRow) (row : ℕ) (e : DirtyRow) → row < length rows → e ≡ slice_index_or rows row e
    → ◌≡◌ {A = ℕ → Bool} (λ c. dirty_at rows row c) (λ c. flag_at e.flags.items c)
row_marks rows row e h is i c =
    (at_index (λ (d : DirtyRow). flag_at d.flags.items c) false rows row e h ∙ ap (λ (d : DirtyRow). flag_at d.flags.items c) (sym is)) i

pub past_wiped : (rows : List DirtyRow) (row : ℕ) → length rows ≤ row → (r c : ℕ) → dirty_at rows r c ≡ cond (nat_eq r row) false (dirty_at rows r c)
past_wiped rows row h r c = by (nat_eq r row) refl
  where
    by : (b : Bool) → nat_eq r row ≡ b → dirty_at rows r c ≡ cond b false (dirty_at rows r c)
    by true t = at_past (λ (d : DirtyRow). flag_at d.flags.items c) false rows r (subst (λ j. length rows ≤ j) (sym (eqb-true r row t)) h)
    by false t = refl
