use Rattle.std.proofs.Common.{◌≡◌, true, take}
use Rattle.std.specs.List.{list_all}
use Rattle.plai_assert.specs.Rows.{plain}
use Rattle.plai_assert.specs.Sides.{holds_of_call}
use Rattle.plai_assert.proofs.sides.all_calls.Given as goal

abbrev pub invariant-loop-row : goal.invariant-loop-row
invariant-loop-row g l = list_all (λ row. holds_of_call l.side (g.D.Domain.plain l.domain) l.check (plain g.D.Domain.value_of row))
    (take l.row-index l.rows) ≡ true
