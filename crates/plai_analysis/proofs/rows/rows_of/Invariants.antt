use Rattle.std.proofs.Common.{◌≡◌, All, map, take}
use Rattle.plai_assert.specs.Rows.{plain}
use Rattle.plai_analysis.specs.Output.{plain_row, IsShown}
use Rattle.plai_analysis.proofs.rows.rows_of.Given as goal

-- the rows so far
abbrev pub invariant-loop-number : goal.invariant-loop-number
invariant-loop-number g l =
    let p = g.D.Domain.plain l._domain in
    let value_of = g.D.Domain.value_of in
    record {
      rows : map (plain value_of) l.rows.items ≡ map (plain_row value_of) (take l.number l.table.rows);
      shown : All (IsShown value_of p) l.rows.items;
    }
