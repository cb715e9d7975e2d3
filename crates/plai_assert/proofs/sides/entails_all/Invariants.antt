use Rattle.std.proofs.Common.{◌≡◌, true, take}
use Rattle.std.specs.List.{list_all}
use Rattle.plai_assert.proofs.sides.entails_all.Given as goal

abbrev pub invariant-loop-prop : goal.invariant-loop-prop
invariant-loop-prop g l = list_all ((g.D.Domain.plain l.domain).entails (g.D.Domain.value_of l.value)) (take l.prop-index l.props) ≡ true
