use Rattle.std.proofs.Common.{◌≡◌, take}
use Rattle.plai_sld.specs.Limits.{past}
use Rattle.plai_sld.proofs.limits.past.Given as goal

abbrev pub invariant-loop-binding : goal.invariant-loop-binding
invariant-loop-binding l = l.limit ≡ past l.number (take l.binding-index l.bindings)
