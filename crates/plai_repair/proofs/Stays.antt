-- The clauses of each row's predicate, compared row by row.
use Rattle.std.proofs.Common.{◌≡◌, ◌↔◌, ℕ, ◌<◌, Bool, true, List, slice_get, Some, subst}
use Rattle.plai_clauses.specs.Program.{ProgramView, clauses_of}
use Rattle.plai_table.specs.Rows.{TableRow}
use Rattle.plai_repair.specs.Unchanged.{StaysAt}

module _ {V : Type 0} (before after : ProgramView) (rows : List (TableRow V)) where
  -- the predicates of the first rows have the clauses that they had
  abbrev pub StayBelow : ℕ → Type 0
  StayBelow n = (k : ℕ) → k < n → StaysAt before after rows k

  -- a test of the row's clauses tells it
  pub row_stays : (n : ℕ) (r : TableRow V) → slice_get rows n ≡ Some r → (t : Bool) → (t ≡ true → clauses_of after r.name.pred ≡ clauses_of before r.name.pred)
      → (clauses_of after r.name.pred ≡ clauses_of before r.name.pred → t ≡ true) → (t ≡ true) ↔ StaysAt before after rows n
  row_stays n r e t f g = (
    λ h q i.
        let one : r ≡ q = (let o : Some r ≡ Some q = subst (λ o. o ≡ Some q) e i in cc) in
        subst (λ (z : TableRow V). clauses_of after z.name.pred ≡ clauses_of before z.name.pred) one (f h),
    λ h. g (h r e),
  )
