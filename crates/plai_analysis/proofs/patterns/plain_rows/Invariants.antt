use Rattle.std.proofs.Common.{◌≡◌, map, take}
use Rattle.plai_assert.specs.Rows.{plain}
use Rattle.plai_analysis.proofs.patterns.plain_rows.Given as goal

-- the rows so far as patterns
abbrev pub invariant-loop-row : goal.invariant-loop-row
invariant-loop-row g l = l.patterns.items ≡ map (plain g.D.Domain.value_of) (take l.row-index l.rows)
