use Rattle.std.proofs.Common.{◌≡◌, take}
use Rattle.plai_factors.proofs.factors.share_all.Given as goal

abbrev pub invariant-loop-factor : goal.invariant-loop-factor
invariant-loop-factor l = l.all.items ≡ take l.factor-index l.factors
