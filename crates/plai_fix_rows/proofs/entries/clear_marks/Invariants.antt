use Rattle.std.proofs.Common.{◌≡◌, ◌<◌, ℕ, false, length, slice_get, Some}
use Rattle.plai_table.specs.Rows.{TableRow}
use Rattle.plai_fix_rows.specs.Tables.{kept_rows}
use Rattle.plai_fix_rows.proofs.entries.clear_marks.Given as goal

-- no row so far is marked
abbrev pub invariant-loop-row : goal.invariant-loop-row
invariant-loop-row g l =
    let p = g.D.Domain.plain l._domain in
    record {
      same : kept_rows g.D.Domain.value_of p l.table.rows ≡ kept_rows g.D.Domain.value_of p l.initial.table.rows;
      length : length l.table.rows ≡ l.row-end;
      cleared : (m : ℕ) (r : TableRow g.row.D-Value.Denot) → m < l.row → slice_get l.table.rows m ≡ Some r → r.entry ≡ false;
    }
