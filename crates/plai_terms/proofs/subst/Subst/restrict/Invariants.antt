use Rattle.std.proofs.Common.{◌≡◌, take}
use Rattle.plai_terms.specs.Subst.{restricted_to}
use Rattle.plai_terms.proofs.subst.Subst.restrict.Given as goal

abbrev pub invariant-loop-pair : goal.invariant-loop-pair
invariant-loop-pair l = l.kept.items ≡ restricted_to l.variables (take l.pair-index l.self)
