use Rattle.std.proofs.Common.{◌≡◌, drop}
use Rattle.plai_terms.specs.Subst.{bound_to}
use Rattle.plai_terms.proofs.subst.Subst.look_up.Given as goal

abbrev pub invariant-loop-pair : goal.invariant-loop-pair
invariant-loop-pair l = bound_to (drop l.pair-index l.pair-items) l.variable ≡ bound_to l.self l.variable
