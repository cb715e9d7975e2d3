use Rattle.plai_reader.proofs.Gathering.{Gathers}
use Rattle.plai_reader.proofs.tree.gather.Given as goal

abbrev pub invariant-loop-tree : goal.invariant-loop-tree
invariant-loop-tree l = Gathers l.fn.trees.items l.tree-iterator.rest.items l.terms.items l.deepest l.wide
