use Rattle.plai_script.proofs.Variables.{noted_more, noted_all}
use Rattle.plai_script.proofs.own_term.+note_variables.Goals as goal

pub loop-arg-preserved : goal.loop-arg-preserved
loop-arg-preserved t c =
    noted_more c.args.seen.now.keys c.loop-arg.seen.keys c.note_variables.new.seen.keys c.as_slice-arg-items.result.now c.loop-arg.arg-index c.arg-item.result
    c.loop-arg-test.true c.arg-item.is c.loop-arg.invariant c.in_ok-note_variables-in-Compound.ensures

pub returns-after-loop-arg : goal.returns-after-loop-arg
returns-after-loop-arg t c =
    noted_all c.args.seen.now.keys c.loop-arg.seen.keys c.in-Compound.args c.as_slice-arg-items.result.now c.loop-arg.arg-index c.args.term.now
    c.in-Compound.field-0
    c.loop-arg-test.false c.in-Compound.is c.as_slice-arg-items.ensures.items c.loop-arg.invariant
