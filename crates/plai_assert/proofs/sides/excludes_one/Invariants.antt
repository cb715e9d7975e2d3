use Rattle.std.proofs.Common.{◌≡◌, false, take}
use Rattle.std.specs.List.{list_any}
use Rattle.plai_assert.proofs.sides.excludes_one.Given as goal

abbrev pub invariant-loop-prop : goal.invariant-loop-prop
invariant-loop-prop g l = list_any ((g.D.Domain.plain l.domain).excludes (g.D.Domain.value_of l.value)) (take l.prop-index l.props) ≡ false
