use Rattle.std.proofs.Common.{◌≡◌, ◌&&◌, true, false, cond, nat_eq, slice_index_or, ap, ◌∙◌}
use Rattle.std.specs.List.{list_any}
use Rattle.plai_arcs.specs.Links.{callers_at, call_count, last_is, one_if}
use Rattle.plai_arcs.proofs.JoinLemmas.{joined_none, joined_already, joined_now, caller_fits_now, index_default}
use Rattle.plai_arcs.proofs.SwapLemmas.{take_past}
use Rattle.plai_arcs.proofs.links.link_all.Goals as goal

pub each-init : goal.each-init
each-init c = joined_none c.args.calls.now c.args.callers.now c.args.row c.args.clause c.args.called.now c.requires.linked c.requires.none
    c.requires.call_room c.requires.caller_room

pub each-preserved-then-is_last_caller : goal.each-preserved-then-is_last_caller
each-preserved-then-is_last_caller c =
    let told : last_is c.args.row c.args.clause (callers_at c.each.callers (slice_index_or c.args.called.now c.each.other-index 0)) ≡ true = cc in
    joined_already c.args.calls.now c.each.calls c.each.callers c.args.row c.args.clause c.args.called.now c.each.other-index
    (slice_index_or c.args.called.now c.each.other-index 0) c.each-test.true
    (λ d. index_default c.args.called.now c.each.other-index d 0 c.each-test.true) c.each.invariant told

pub link-requires-clause-caller_room : goal.link-requires-clause-caller_room
link-requires-clause-caller_room c =
    let told : last_is c.args.row c.args.clause (callers_at c.each.callers (slice_index_or c.args.called.now c.each.other-index 0)) ≡ false = cc in
    caller_fits_now c.args.calls.now c.each.calls c.each.callers c.args.row c.args.clause c.args.called.now c.each.other-index
    (slice_index_or c.args.called.now c.each.other-index 0) c.each-test.true
    (λ d. index_default c.args.called.now c.each.other-index d 0 c.each-test.true) c.each.invariant told

pub each-preserved : goal.each-preserved
each-preserved c =
    let told : last_is c.args.row c.args.clause (callers_at c.each.callers (slice_index_or c.args.called.now c.each.other-index 0)) ≡ false = cc in
    joined_now c.args.calls.now c.each.calls c.each.callers c.args.row c.args.clause c.args.called.now c.each.other-index
    (slice_index_or c.args.called.now c.each.other-index 0) c.each-test.true
    (λ d. index_default c.args.called.now c.each.other-index d 0 c.each-test.true) c.each.invariant told c.link.new.calls c.link.new.callers
    c.link.ensures.calls c.link.ensures.callers c.link.ensures.call_room c.link.ensures.caller_room

pub returns-clause-calls : goal.returns-clause-calls
returns-clause-calls c r k q =
    c.each.invariant.calls r k q
    ∙ ap (λ xs. cond (nat_eq r c.args.row && nat_eq k c.args.clause) (one_if (list_any (nat_eq q) xs)) (call_count c.args.calls.now r k q))
    (take_past c.args.called.now c.each.other-index c.each-test.false)
