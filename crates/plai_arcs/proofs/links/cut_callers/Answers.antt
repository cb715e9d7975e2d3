use Rattle.std.proofs.Common.{nat_eq}
use Rattle.plai_arcs.specs.Links.{call_count}
use Rattle.plai_arcs.proofs.CutLemmas.{caller_there, cut_other_rows, cut_fewer_callers, no_some, none_left, none_calls}
use Rattle.plai_arcs.proofs.links.cut_callers.Goals as goal

pub cut-requires-clause-there : goal.cut-requires-clause-there
cut-requires-clause-there c =
    let arc = c.in-Some.arc in
    caller_there c.each.calls c.each.callers c.args.row arc.row arc.clause arc.called c.each.invariant.linked c.in-Some.ensures.row c.in-Some.ensures.there

pub each-preserved : goal.each-preserved
each-preserved c =
    let arc = c.in-Some.arc in
    record {
      linked = c.cut.ensures.linked;
      calls = λ r k q. cut_other_rows c.each.calls c.cut.new.calls c.each.callers c.cut.new.callers arc.row arc.clause c.args.row arc.called
          c.in-Some.ensures.row
          c.cut.ensures.calls (call_count c.args.calls.now r k q) r k q (c.each.invariant.calls r k q);
    }

pub each-smaller : goal.each-smaller
each-smaller c =
    let arc = c.in-Some.arc in
    cut_fewer_callers c.each.calls c.cut.new.calls c.each.callers c.cut.new.callers arc.row arc.clause c.args.row arc.called c.in-Some.ensures.row
    c.cut.ensures.callers

pub returns-clause-calls : goal.returns-clause-calls
returns-clause-calls c r k q =
    none_left (nat_eq q c.args.row) (call_count c.each.calls r k q) (call_count c.args.calls.now r k q)
    (none_calls c.each.calls c.each.callers c.args.row c.each.invariant.linked
    (no_some c.last_caller.result _ c.in_default.not-Some c.last_caller.ensures.none) r k q) (c.each.invariant.calls r k q)
