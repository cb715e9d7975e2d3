use Rattle.std.proofs.Common.{◌≡◌, length, refl, sym, ap, ◌∙◌}
use Rattle.std.specs.Option.{option_and_then}
use Rattle.std.specs.Iterator.Adapters.{zip_first, zip_second}
use Rattle.std.specs.Slice.Iter.{iter_rest}
use Rattle.std.proofs.lemmas.Slice.Zip.{Zip-more, either_empty_from_Zip}
use Rattle.plai_terms.specs.declared.term.Term.{Compound as structure}
use Rattle.plai_terms.specs.declared.skeleton.Skeleton.{Compound}
use Rattle.plai_depth_laws.specs.Moves.{push, push_all}
use Rattle.plai_depth.specs.Values.{where_kept}
use Rattle.plai_depth.proofs.Lists.{push_end, push_next, ok_then}
use Rattle.plai_depth.proofs.Pushed.{functor_pushed}
use Rattle.plai_depth.proofs.pushes.+push.Goals as goal

pub push-returns-else-not-same_functor : goal.push-returns-else-not-same_functor
push-returns-else-not-same_functor t c =
    let args = c.as_slice-args.result.now in
    let others = c.as_slice-others.result.now in
    let ss = c.args.skeletons.now.items in
    let new = c.push_all.new.skeletons.items in
    let whole = functor_pushed c.args.term.now c.args.pushed.now ss c.in-Compound.name args c.in-Compound-pushed.other others
    (length args) (length others) c.same_functor.result
    (c.in-Compound.is ∙ ap (structure c.in-Compound.name) (sym c.as_slice-args.ensures.items))
    (c.in-Compound-pushed.is ∙ ap (Compound c.in-Compound-pushed.other) (sym c.as_slice-others.ensures))
    refl refl c.same_functor.ensures c.if-not-same_functor.false in
    ok_then (λ some. push_all args others ss ≡ where_kept some new) (λ some. push c.args.term.now ss c.args.pushed.now ≡ where_kept some new)
    (λ some h. whole ∙ h)
    c.push_all.result c.push_all.ensures

pub push_all-loop-term-preserved : goal.push_all-loop-term-preserved
push_all-loop-term-preserved t c =
    let h = Zip-more c.loop-term.term-iterator c.next.new.self c.next.result (c.in-Some.term, c.in-Some.skeleton) c.in-Some.is c.next.ensures.steps in
    let n = push_next _ _ c.in-Some.term.now c.in-Some.skeleton.now _ _ h.0 h.1 c.loop-term.skeletons.items in
    let rest = push_all (iter_rest (zip_first c.next.new.self)) (iter_rest (zip_second c.next.new.self)) in
    sym (n ∙ ap (option_and_then rest) (c.in_ok-push.ensures ∙ ap (λ b. where_kept b c.push.new.skeletons.items) c.if-not-branch.false)) ∙ c.loop-term.invariant

pub push_all-returns : goal.push_all-returns
push_all-returns t c =
    let e = either_empty_from_Zip c.loop-term.term-iterator c.next.new.self c.next.result c.in-None.is c.next.ensures.steps in
    sym c.loop-term.invariant ∙ push_end _ _ c.loop-term.skeletons.items e
