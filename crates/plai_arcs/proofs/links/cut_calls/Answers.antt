use Rattle.std.proofs.Common.{◌&&◌, nat_eq}
use Rattle.plai_arcs.specs.Links.{call_count}
use Rattle.plai_arcs.proofs.PlaceLemmas.{through}
use Rattle.plai_arcs.proofs.CutLemmas.{call_there, cut_others, cut_fewer, no_some, none_left, none_called}
use Rattle.plai_arcs.proofs.links.cut_calls.Goals as goal

pub cut-requires-clause-there : goal.cut-requires-clause-there
cut-requires-clause-there c =
    let arc = c.in-Some.arc in
    call_there c.each.calls c.args.row c.args.clause arc.row arc.clause arc.called c.in-Some.ensures.pair.0 c.in-Some.ensures.pair.1 c.in-Some.ensures.there

pub each-preserved : goal.each-preserved
each-preserved c =
    let arc = c.in-Some.arc in
    record {
      linked = c.cut.ensures.linked;
      calls = λ r k q. cut_others c.each.calls c.cut.new.calls c.each.callers c.cut.new.callers c.args.row c.args.clause arc.row arc.clause arc.called
          c.in-Some.ensures.pair.0 c.in-Some.ensures.pair.1
          c.cut.ensures.calls (call_count c.args.calls.now r k q) r k q (c.each.invariant.calls r k q);
      call_room = λ r k. through _ _ _ (c.each.invariant.call_room r k) (c.cut.ensures.call_room r k);
      caller_room = λ q. through _ _ _ (c.each.invariant.caller_room q) (c.cut.ensures.caller_room q);
    }

pub each-smaller : goal.each-smaller
each-smaller c =
    let arc = c.in-Some.arc in
    cut_fewer c.each.calls c.cut.new.calls c.each.callers c.cut.new.callers c.args.row c.args.clause arc.row arc.clause arc.called c.in-Some.ensures.pair.0
    c.in-Some.ensures.pair.1 c.cut.ensures.calls

pub returns-clause-calls : goal.returns-clause-calls
returns-clause-calls c r k q =
    none_left (nat_eq r c.args.row && nat_eq k c.args.clause) (call_count c.each.calls r k q) (call_count c.args.calls.now r k q)
    (none_called c.each.calls c.args.row c.args.clause (no_some c.last_call.result _ c.in_default.not-Some c.last_call.ensures.none) r k q)
    (c.each.invariant.calls r k q)
