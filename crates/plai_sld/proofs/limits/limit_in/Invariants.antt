use Rattle.std.proofs.Common.{◌≡◌, take}
use Rattle.plai_sld.specs.Limits.{limit_in}
use Rattle.plai_sld.proofs.limits.limit_in.Given as goal

abbrev pub invariant-loop-term : goal.invariant-loop-term
invariant-loop-term l = l.limit ≡ limit_in (take l.term-index l.terms)
