use Rattle.std.proofs.Common.{◌≡◌, Some, sym, ap, ◌∙◌}
use Rattle.std.specs.Iterator.Adapters.{zip_first, zip_second}
use Rattle.std.specs.Slice.Iter.{iter_rest}
use Rattle.std.proofs.lemmas.Slice.Zip.{Zip-more, either_empty_from_Zip}
use Rattle.plai_terms.specs.declared.skeleton.Skeleton.{Any}
use Rattle.plai_depth_laws.specs.Skeletons.{meet}
use Rattle.plai_depth_laws.proofs.Meets.{meet-second_Any}
use Rattle.plai_depth.proofs.Lists.{meet_start, meet_more, meet_all_done}
use Rattle.plai_depth.proofs.lattice.+meet.Goals as goal
use Rattle.plai_depth.proofs.lattice.+meet.Goals.{meet-in_default-Any-via-in-Integer+in-Any, meet-in_default-Any-via-in-Int+in-Any}
use Rattle.plai_depth.proofs.lattice.+meet.Goals.{meet-in_default-Any-via-in-Atom+in-Any, meet-in_default-Any-via-in-Compound+in-Any}

pub meet-returns-in_ok-copy-in_default-Any : goal.meet-returns-in_ok-copy-in_default-Any
meet-returns-in_ok-copy-in_default-Any t c =
    let second : c.args.second.now ≡ Any = elim c.in_default-Any.branch [
      | meet-in_default-Any-via-in-Integer+in-Any w ↦ w.in_default-Any.is-1
      | meet-in_default-Any-via-in-Int+in-Any w ↦ w.in_default-Any.is-1
      | meet-in_default-Any-via-in-Atom+in-Any w ↦ w.in_default-Any.is-1
      | meet-in_default-Any-via-in-Compound+in-Any w ↦ w.in_default-Any.is-1
    ] in
    ap Some c.in_ok-copy-in_default-Any.ensures ∙ sym (ap (meet c.args.first.now) second ∙ meet-second_Any c.args.first.now)

pub meet_all-loop-one-init : goal.meet_all-loop-one-init
meet_all-loop-one-init t c =
    let a : iter_rest (zip_first c.into_iter-one-iterator.result) ≡ c.args.first.now = cc in
    let b : iter_rest (zip_second c.into_iter-one-iterator.result) ≡ c.args.second.now = cc in
    meet_start c.new-all.result.items _ _ _ _ c.new-all.ensures.items a b

pub meet_all-loop-one-preserved : goal.meet_all-loop-one-preserved
meet_all-loop-one-preserved t c =
    let h = Zip-more c.loop-one.one-iterator c.next.new.self c.next.result (c.in-Some.one, c.in-Some.other) c.in-Some.is c.next.ensures.steps in
    meet_more _ _ _ _ _ _ h.0 h.1 c.loop-one.all.items c.push.new.self.items _ c.in-Some-2.met (sym c.in_ok-meet.ensures ∙ c.in-Some-2.is)
    c.in_ok-push-in-Some-2.ensures.items
    c.loop-one.invariant

pub meet_all-returns : goal.meet_all-returns
meet_all-returns t c =
    let e = either_empty_from_Zip c.loop-one.one-iterator c.next.new.self c.next.result c.in-None.is c.next.ensures.steps in
    meet_all_done c.loop-one.all.items _ _ _ e c.loop-one.invariant
