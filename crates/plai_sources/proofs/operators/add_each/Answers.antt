use Rattle.std.proofs.lemmas.Result.{err_from_is_err_and}
use Rattle.plai_sources.proofs.OperatorLists.{one_added, one_refused}
use Rattle.plai_sources.proofs.operators.add_each.Goals as goal

pub returns-in_err-add : goal.returns-in_err-add
returns-in_err-add c =
    one_refused c.args.priority c.args.kind c.args.ops.now c.loop-name.ops c.args.names.now c.loop-name.name-index c.name-item.result
    c.add.new.ops c.in_err-add.field-0.0 c.from_residual.result c.loop-name-test.true c.name-item.is c.loop-name.invariant c.in_err-add.ensures
    (err_from_is_err_and c.from_residual.result c.from_residual.ensures.1)

pub loop-name-preserved : goal.loop-name-preserved
loop-name-preserved c =
    one_added c.args.priority c.args.kind c.args.ops.now c.loop-name.ops c.args.names.now c.loop-name.name-index c.name-item.result
    c.add.new.ops c.loop-name-test.true c.name-item.is c.loop-name.invariant c.in_ok-add.ensures
