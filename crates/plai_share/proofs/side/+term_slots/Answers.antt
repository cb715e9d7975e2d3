use Rattle.std.proofs.Common.{◌≤◌, length, arith}
use Rattle.plai_terms.specs.Term.{has_variables_below}
use Rattle.plai_share_laws.specs.Sides.{term_slots}
use Rattle.plai_share.proofs.Arguments.{arg_term, arg_slots, arg_end}
use Rattle.plai_share.proofs.side.+term_slots.Goals as goal

pub loop-arg-preserved : goal.loop-arg-preserved
loop-arg-preserved t c = record {
  term = arg_term (has_variables_below c.args.variables) c.as_slice-arg-items.result.now c.loop-arg.arg-index c.arg-item.result c.loop-arg-test.true
      c.loop-arg.invariant.term;
  all = arg_slots (term_slots c.args.base) c.as_slice-arg-items.result.now c.loop-arg.arg-index c.arg-item.result c.loop-arg.slots c.union-slots.result
      c.term_slots.result _
      c.loop-arg-test.true c.arg-item.is c.loop-arg.invariant.all c.term_slots.ensures c.union-slots.ensures;
}

pub returns-after-loop-arg : goal.returns-after-loop-arg
returns-after-loop-arg t c =
    let all : length c.as_slice-arg-items.result.now ≤ c.loop-arg.arg-index = omega (arith, c.loop-arg-test.false) in
    arg_end (term_slots c.args.base) c.as_slice-arg-items.result.now c.loop-arg.arg-index c.loop-arg.slots _ all c.loop-arg.invariant.all
