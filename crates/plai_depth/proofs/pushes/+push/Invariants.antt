use Rattle.std.proofs.Common.{◌≡◌}
use Rattle.std.specs.Iterator.Adapters.{zip_first, zip_second}
use Rattle.std.specs.Slice.Iter.{iter_rest}
use Rattle.plai_depth_laws.specs.Moves.{push_all}
use Rattle.plai_depth.proofs.pushes.+push.Given as goal

abbrev pub invariant-push_all-loop-term : goal.invariant-push_all-loop-term
invariant-push_all-loop-term l =
    push_all (iter_rest (zip_first l.term-iterator)) (iter_rest (zip_second l.term-iterator)) l.skeletons.items
    ≡ push_all l.terms l.pushed l.initial.skeletons.items
