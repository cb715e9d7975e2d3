use Rattle.plai_terms.proofs.Pairs.{lengths_taken, pairs_taken}
use Rattle.plai_terms.proofs.moves.pair_owned.Goals as goal

pub loop-pairs-preserved : goal.loop-pairs-preserved
loop-pairs-preserved c = record {
  lengths = lengths_taken _ _ _ _ _ _ c.take_last.ensures c.take_last-in-loop-pairs.ensures c.loop-pairs.invariant.lengths;
  pairs = pairs_taken _ _ _ _ _ _ _ _ _ c.take_last.ensures c.take_last-in-loop-pairs.ensures c.loop-pairs.invariant.lengths c.in_ok-push.ensures.items
      c.loop-pairs.invariant.pairs;
}
