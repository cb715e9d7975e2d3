use Rattle.std.proofs.Common.{◌≡◌, map}
use Rattle.std.specs.Iterator.Adapters.{zip_first, zip_second}
use Rattle.std.specs.Slice.Iter.{iter_rest}
use Rattle.plai_depth_laws.specs.OrderTest.{is_under, are_under}
use Rattle.plai_depth.proofs.lattice.+order.Given as goal

abbrev pub invariant-are_under-loop-lower : goal.invariant-are_under-loop-lower
invariant-are_under-loop-lower l =
    are_under (map is_under (iter_rest (zip_first l.lower-iterator))) (iter_rest (zip_second l.lower-iterator)) ≡ are_under (map is_under l.first) l.second
