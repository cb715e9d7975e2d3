use Rattle.plai_pos.proofs.Terms.{alone, none_below, none_slots, slots_more, term_below}
use Rattle.plai_pos.proofs.slots.slots_of.Goals as goal

pub with_variables-requires-clause-term : goal.with_variables-requires-clause-term
with_variables-requires-clause-term c = term_below c.args.variables c.args.terms.now c.loop-term.term-index c.term-item.result c.requires.below c.term-item.is
    c.loop-term-test.true

pub with_variables-requires-clause-slots : goal.with_variables-requires-clause-slots
with_variables-requires-clause-slots c = none_below c.args.variables _ c.empty.ensures

pub loop-term-init : goal.loop-term-init
loop-term-init c = none_slots c.args.variables c.args.terms.now _ c.new-sets.ensures.items

pub loop-term-preserved : goal.loop-term-preserved
loop-term-preserved c =
    slots_more c.args.variables c.loop-term.term-index c.args.terms.now c.term-item.result c.loop-term.sets.items c.push.new.self.items c.with_variables.result
    c.term-item.is c.loop-term-test.true c.with_variables.ensures.below (alone _ _ _ c.empty.ensures c.with_variables.ensures.truth)
    c.in_ok-push.ensures.items c.loop-term.invariant
