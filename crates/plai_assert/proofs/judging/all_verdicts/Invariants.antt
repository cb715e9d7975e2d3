use Rattle.std.proofs.Common.{◌≡◌, map, take}
use Rattle.plai_assert.specs.Groups.{verdict_among}
use Rattle.plai_assert.proofs.judging.all_verdicts.Given as goal

abbrev pub invariant-loop-check : goal.invariant-loop-check
invariant-loop-check g l = l.verdicts.items ≡ map (verdict_among g.D.Domain.value_of (g.D.Domain.plain l.domain) l.groups.entries) (take l.check-index l.checks)
