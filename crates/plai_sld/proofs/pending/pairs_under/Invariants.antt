use Rattle.std.proofs.Common.{◌≡◌, take, map}
use Rattle.plai_terms.specs.Subst.{bound_to}
use Rattle.plai_terms.specs.Substitution.{under}
use Rattle.plai_sld.proofs.pending.pairs_under.Given as goal

abbrev pub invariant-loop-pair : goal.invariant-loop-pair
invariant-loop-pair l = l.changed.items ≡ map (λ b. (b.0, under (bound_to l.bindings) b.1)) (take l.pair-index l.pairs)
