use Rattle.std.proofs.Common.{◌≡◌, ◌++◌, length, reverse, vec_len}
use Rattle.plai_terms.specs.Unification.{equations}
use Rattle.plai_terms.proofs.moves.pair_owned.Given as goal

abbrev pub invariant-loop-pairs : goal.invariant-loop-pairs
invariant-loop-pairs l = record {
  lengths : length l.left.items ≡ length l.right.items;
  pairs : equations l.left.items l.right.items ++ reverse l.pairs.items ≡ equations l.initial.left.items l.initial.right.items;
}

abbrev pub decreases-loop-pairs : goal.decreases-loop-pairs
decreases-loop-pairs l = vec_len l.left
