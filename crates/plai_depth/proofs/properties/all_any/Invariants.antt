use Rattle.std.proofs.Common.{◌≡◌, replicate}
use Rattle.plai_terms.specs.declared.skeleton.Skeleton.{Any}
use Rattle.plai_depth.proofs.properties.all_any.Given as goal

abbrev pub invariant-loop : goal.invariant-loop
invariant-loop l = l.all.items ≡ replicate l.counter Any
