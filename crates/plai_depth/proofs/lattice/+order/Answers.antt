use Rattle.std.proofs.Common.{◌≡◌, true, ◌&&◌, map, sym, ap, ◌∙◌}
use Rattle.std.specs.Iterator.Adapters.{zip_first, zip_second}
use Rattle.std.specs.Slice.Iter.{iter_rest}
use Rattle.std.proofs.lemmas.Slice.Zip.{Zip-more, either_empty_from_Zip}
use Rattle.plai_depth_laws.specs.OrderTest.{is_under, are_under}
use Rattle.plai_depth.proofs.Lists.{under_end, under_next}
use Rattle.plai_depth.proofs.lattice.+order.Goals as goal

pub are_under-loop-lower-preserved : goal.are_under-loop-lower-preserved
are_under-loop-lower-preserved t c =
    let h = Zip-more c.loop-lower.lower-iterator c.next.new.self c.next.result (c.in-Some.lower, c.in-Some.upper) c.in-Some.is c.next.ensures.steps in
    let n = under_next _ _ c.in-Some.lower.now c.in-Some.upper.now _ _ h.0 h.1 in
    let yes : is_under c.in-Some.lower.now c.in-Some.upper.now ≡ true = cc in
    let rest = are_under (map is_under (iter_rest (zip_first c.next.new.self))) (iter_rest (zip_second c.next.new.self)) in
    sym (n ∙ ap (λ b. b && rest) yes) ∙ c.loop-lower.invariant

pub are_under-returns : goal.are_under-returns
are_under-returns t c =
    let e = either_empty_from_Zip c.loop-lower.lower-iterator c.next.new.self c.next.result c.in-None.is c.next.ensures.steps in
    sym (under_end _ _ e) ∙ c.loop-lower.invariant
