use Rattle.std.proofs.lemmas.Slice.Zip.{Zip-more, either_empty_from_Zip}
use Rattle.plai_depth.proofs.Lists.{join_all_done, join_more}
use Rattle.plai_depth.proofs.lattice.+join.Goals as goal

pub join_all-loop-one-preserved : goal.join_all-loop-one-preserved
join_all-loop-one-preserved t c =
    let h = Zip-more c.loop-one.one-iterator c.next.new.self c.next.result (c.in-Some.one, c.in-Some.other) c.in-Some.is c.next.ensures.steps in
    join_more _ _ _ _ _ _ h.0 h.1 c.loop-one.all.items _ _ _ c.in_ok-join.ensures c.in_ok-push.ensures.items c.loop-one.invariant

pub join_all-returns : goal.join_all-returns
join_all-returns t c =
    let e = either_empty_from_Zip c.loop-one.one-iterator c.next.new.self c.next.result c.in-None.is c.next.ensures.steps in
    join_all_done c.loop-one.all.items _ _ _ e c.loop-one.invariant
