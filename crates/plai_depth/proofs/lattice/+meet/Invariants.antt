use Rattle.std.proofs.Common.{◌≡◌, ◌++◌, map}
use Rattle.std.specs.Option.{option_map}
use Rattle.std.specs.Iterator.Adapters.{zip_first, zip_second}
use Rattle.std.specs.Slice.Iter.{iter_rest}
use Rattle.plai_depth_laws.specs.Skeletons.{meet, meet_args}
use Rattle.plai_depth.proofs.lattice.+meet.Given as goal

abbrev pub invariant-meet_all-loop-one : goal.invariant-meet_all-loop-one
invariant-meet_all-loop-one l =
    option_map (λ rest. l.all.items ++ rest) (meet_args (map meet (iter_rest (zip_first l.one-iterator))) (iter_rest (zip_second l.one-iterator)))
    ≡ meet_args (map meet l.first) l.second
