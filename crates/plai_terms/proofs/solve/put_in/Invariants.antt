use Rattle.std.proofs.Common.{◌≡◌, map, take}
use Rattle.plai_terms.specs.Subst.{apply_of}
use Rattle.plai_terms.proofs.solve.put_in.Given as goal

abbrev pub invariant-loop-pair : goal.invariant-loop-pair
invariant-loop-pair l = l.changed.items ≡ map (λ e. (apply_of l.binding e.0, apply_of l.binding e.1)) (take l.pair-index l.pairs)
