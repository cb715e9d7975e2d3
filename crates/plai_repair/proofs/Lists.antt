-- Rows whose predicates lost a clause.
use Rattle.std.proofs.Common.{◌≡◌, ℕ, ◌+◌, ◌<◌, ◌≤◌, Bool, List, length, slice_get, Option, Some, None, sym, refl, subst, inl, inr, arith}
use Rattle.std.proofs.lemmas.Option.{slice_get_within}
use Rattle.plai_theory.specs.Words.{HasSome}
use Rattle.plai_clauses.specs.Program.{ProgramView, clauses_of}
use Rattle.plai_clauses.specs.declared.clause.Clause.{Clause}
use Rattle.plai_table.specs.Rows.{TableRow}
use Rattle.plai_repair.specs.Lost.{IsPrefix, LosesAt}
use Rattle.plai_repair.specs.Gathering.{AreMarked, Gathers}
use Rattle.plai_repair.proofs.Gathered.{gathers_none, gathers_same, gathers_then}
use Rattle.plai_repair.proofs.Members.{at_some, of_two}

module _ {V : Type 0} (before after : ProgramView) (rows : List (TableRow V)) where
  loses_is : (n : ℕ) (r : TableRow V) → slice_get rows n ≡ Some r → (IsPrefix (clauses_of before r.name.pred) (clauses_of after r.name.pred) → ⊥)
      → LosesAt before after rows n
  loses_is n r e none =
      subst (HasSome (λ (r : TableRow V). IsPrefix (clauses_of before r.name.pred) (clauses_of after r.name.pred) → ⊥)) (sym e) none

  is_loss : (n : ℕ) (r : TableRow V) → slice_get rows n ≡ Some r → LosesAt before after rows n
      → IsPrefix (clauses_of before r.name.pred) (clauses_of after r.name.pred) → ⊥
  is_loss n r e l = at_some (λ (r : TableRow V). IsPrefix (clauses_of before r.name.pred) (clauses_of after r.name.pred) → ⊥) (slice_get rows n) r e l

  pub loses_within : (n : ℕ) → LosesAt before after rows n → n < length rows
  loses_within n l = at (slice_get rows n) refl l
    where
      at : (o : Option (TableRow V)) → slice_get rows n ≡ o
          → HasSome (λ (r : TableRow V). IsPrefix (clauses_of before r.name.pred) (clauses_of after r.name.pred) → ⊥) o → n < length rows
      at None e l = absurd l
      at (Some r) e l = slice_get_within rows n r e

  -- the row's predicate lost none
  pub gathers_not_at : (row : ℕ) (r : TableRow V) (old new : List Clause) (marks : List Bool) {gathered : List ℕ} → slice_get rows row ≡ Some r
      → old ≡ clauses_of before r.name.pred → new ≡ clauses_of after r.name.pred → IsPrefix old new → AreMarked marks gathered
      → Gathers (λ j. (j ≡ row) × LosesAt before after rows j) marks gathered marks gathered
  gathers_not_at row r old new marks {gathered} e f g p marked =
      gathers_none (λ j. (j ≡ row) × LosesAt before after rows j) marks gathered marked
      (λ j l. let at : LosesAt before after rows row = subst (LosesAt before after rows) l.0 l.1 in
      absurd (is_loss row r e at
      (subst (λ (xs : List Clause). IsPrefix xs (clauses_of after r.name.pred)) f (subst (λ (ys : List Clause). IsPrefix old ys) g p))))

  -- the row's predicate lost a clause
  pub gathers_at : (row : ℕ) (r : TableRow V) (old new : List Clause) {marks new_marks : List Bool} {gathered now : List ℕ} → slice_get rows row ≡ Some r
      → old ≡ clauses_of before r.name.pred → new ≡ clauses_of after r.name.pred → (IsPrefix old new → ⊥)
      → Gathers (λ j. j ≡ row) marks gathered new_marks now
      → Gathers (λ j. (j ≡ row) × LosesAt before after rows j) marks gathered new_marks now
  gathers_at row r old new e f g none a =
      gathers_same (λ j. j ≡ row) (λ j. (j ≡ row) × LosesAt before after rows j) a
      (λ j same. (
        same,
        subst (LosesAt before after rows) (sym same) (loses_is row r e
            (λ p. none (subst (λ (xs : List Clause). IsPrefix xs new) (sym f)
            (subst (λ (ys : List Clause). IsPrefix (clauses_of before r.name.pred) ys) (sym g) p)))),
      ))
      (λ j l. l.0)

  -- the rows so far
  pub loses_none : {marks : List Bool} {gathered : List ℕ} → AreMarked marks gathered
      → Gathers (λ j. (j < 0) × LosesAt before after rows j) marks gathered marks gathered
  loses_none {marks} {gathered} marked =
      gathers_none (λ j. (j < 0) × LosesAt before after rows j) marks gathered marked (λ j l. let h = l.0 in absurd (omega (arith, h)))

  pub loses_more : (row : ℕ) {marks mid new_marks : List Bool} {gathered between now : List ℕ}
      → Gathers (λ j. (j < row) × LosesAt before after rows j) marks gathered mid between
      → Gathers (λ j. (j ≡ row) × LosesAt before after rows j) mid between new_marks now
      → Gathers (λ j. (j < row + 1) × LosesAt before after rows j) marks gathered new_marks now
  loses_more row a b =
      gathers_then (λ j. (j < row) × LosesAt before after rows j) (λ j. (j ≡ row) × LosesAt before after rows j)
      (λ j. (j < row + 1) × LosesAt before after rows j) a b
      (λ j l. of_two j row l.0 (λ h. inl (h, l.1)) (λ e. inr (e, l.1)))
      (λ j l. let h = l.0 in (omega (arith, h), l.1))
      (λ j l. let h = l.0 in (omega (arith, h), l.1))

  pub loses_all : (row : ℕ) {marks new_marks : List Bool} {gathered now : List ℕ} → length rows ≤ row
      → Gathers (λ j. (j < row) × LosesAt before after rows j) marks gathered new_marks now
      → Gathers (LosesAt before after rows) marks gathered new_marks now
  loses_all row h a =
      gathers_same (λ j. (j < row) × LosesAt before after rows j) (LosesAt before after rows) a (λ j l. l.1)
      (λ j l. let w = loses_within j l in (omega (arith, h, w), l))
