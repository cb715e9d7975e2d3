use Rattle.std.proofs.Common.{◌≡◌, take}
use Rattle.plai_terms.specs.Unification.{equations}
use Rattle.plai_terms.proofs.moves.pair_up.Given as goal

abbrev pub invariant-loop-i : goal.invariant-loop-i
invariant-loop-i l = l.pairs.items ≡ equations (take l.i l.left) (take l.i l.right)
