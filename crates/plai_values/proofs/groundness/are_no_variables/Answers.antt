use Rattle.std.proofs.Common.{arith}
use Rattle.plai_values.proofs.GroundTerms.{tests_on, tests_end}
use Rattle.plai_values.proofs.groundness.are_no_variables.Goals as goal

pub returns-then-not-is_no_variable : goal.returns-then-not-is_no_variable
returns-then-not-is_no_variable c =
    tests_end c.args.nodes.now c.loop-node.node-index c.node-item.result _ c.is_no_variable.result (omega arith) c.node-item.is c.is_no_variable.ensures
    c.loop-node.invariant c.if-not-is_no_variable.true

pub loop-node-preserved : goal.loop-node-preserved
loop-node-preserved c =
    tests_on c.args.nodes.now c.loop-node.node-index c.node-item.result _ c.is_no_variable.result (omega arith) c.node-item.is c.is_no_variable.ensures
    c.loop-node.invariant c.if-not-is_no_variable.false
