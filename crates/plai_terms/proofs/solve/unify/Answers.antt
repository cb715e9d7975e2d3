use Rattle.std.proofs.lemmas.Grind.{common_steps}
use Rattle.std.proofs.Common.{◌≡◌, arith, ap, ◌∙◌, ◌++◌, [], reverse, append-nil}
use Rattle.plai_terms.proofs.Loop.{start_under_way, next_under_way, next_fewer, stop_under_way, end_under_way, progress_done, progress_clash, progress_occurs}
use Rattle.plai_terms.proofs.solve.unify.Goals as goal

pub loop-pair-init : goal.loop-pair-init
loop-pair-init c =
    start_under_way _ _ _ _ _ c.in_ok-pair_up.ensures
    (c.in_ok-put_front.ensures ∙ ap (λ ws. c.into_vec.result.items ++ reverse ws) c.new-waiting.ensures.items ∙ append-nil c.into_vec.result.items
    ∙ c.into_vec.ensures)
    c.new-bindings.ensures.items

pub loop-pair-smaller : goal.loop-pair-smaller
loop-pair-smaller c =
    next_fewer c.args.left.now c.args.right.now _ _ c.in-Some.pair _ c.in-Some.ensures.items c.advance_pair.new.waiting.items
    c.advance_pair.new.bindings.items (progress_done _ _ _ _ _ _ _ c.in_ok-advance_pair.ensures c.in-Done.is)

pub loop-pair-preserved : goal.loop-pair-preserved
loop-pair-preserved c =
    next_under_way _ _ _ _ c.in-Some.pair _ c.in-Some.ensures.items _ _ c.loop-pair.invariant
    (progress_done _ _ _ _ _ _ _ c.in_ok-advance_pair.ensures c.in-Done.is)

pub returns-in-Clash : goal.returns-in-Clash
returns-in-Clash c =
    stop_under_way _ _ _ _ c.in-Some.pair _ c.in-Some.ensures.items _ c.loop-pair.invariant
    (progress_clash _ _ _ _ _ _ _ c.in_ok-advance_pair.ensures c.in-Clash.is)

pub returns-in-Occurs : goal.returns-in-Occurs
returns-in-Occurs c =
    stop_under_way _ _ _ _ c.in-Some.pair _ c.in-Some.ensures.items _ c.loop-pair.invariant
    (progress_occurs _ _ _ _ _ _ _ c.in_ok-advance_pair.ensures c.in-Occurs.is)

pub returns : goal.returns
returns c =
    let cases = c.in_default.ensures.cases in
    let empty : c.loop-pair.waiting.items ≡ [] = grind (arith, common_steps, cases, c.in_default.ensures.items) in
    rw c.new.ensures (end_under_way _ _ _ _ empty c.loop-pair.invariant)
