use Rattle.std.proofs.Common.{◌≡◌, ◌++◌, map}
use Rattle.std.specs.Iterator.Adapters.{zip_first, zip_second}
use Rattle.std.specs.Slice.Iter.{iter_rest}
use Rattle.plai_depth_laws.specs.Skeletons.{join, join_args}
use Rattle.plai_depth.proofs.lattice.+join.Given as goal

abbrev pub invariant-join_all-loop-one : goal.invariant-join_all-loop-one
invariant-join_all-loop-one l =
    l.all.items ++ join_args (map join (iter_rest (zip_first l.one-iterator))) (iter_rest (zip_second l.one-iterator)) ≡ join_args (map join l.first) l.second
