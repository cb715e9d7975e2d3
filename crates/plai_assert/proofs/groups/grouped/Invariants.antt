use Rattle.std.proofs.Common.{take}
use Rattle.plai_assert.specs.Groups.{AreGroupsOf}
use Rattle.plai_assert.proofs.groups.grouped.Given as goal

abbrev pub invariant-loop-row : goal.invariant-loop-row
invariant-loop-row g l = AreGroupsOf l.groups.entries (take l.row-index l.rows)
