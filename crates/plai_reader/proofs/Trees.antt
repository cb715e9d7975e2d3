-- Climbing priorities gives the tree by the weakest operator.
use Rattle.std.proofs.Common.{◌≡◌, List, [], length, sym, ◌∙◌, arith}
use Rattle.plai_reader.specs.Level.{Builder, Link, tree_of}
use Rattle.plai_reader.specs.Climb.{climbed}
use Rattle.plai_reader.proofs.Spine.{Place}
use Rattle.plai_reader.proofs.Climbs.{climbed-is}
use Rattle.plai_reader.proofs.Weakest.{tree_within-is}

module _ {T : Type 0} (build : Builder T) where
  pub climbed-tree : (first : Place T) (ls : List (Link T)) → climbed build [] first ls ≡ tree_of build first ls
  unfolding tree_of
  climbed-tree first ls = climbed-is build [] first ls tt ∙ sym (tree_within-is build (length ls) first ls (omega arith))
