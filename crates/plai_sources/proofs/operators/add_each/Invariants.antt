use Rattle.std.proofs.Common.{◌≡◌, take, Some}
use Rattle.plai_sources.specs.Operators.{with_each}
use Rattle.plai_sources.proofs.operators.add_each.Given as goal

abbrev pub invariant-loop-name : goal.invariant-loop-name
invariant-loop-name l = with_each l.initial.ops l.priority l.kind (take l.name-index l.names) ≡ Some l.ops
