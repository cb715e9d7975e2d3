use Rattle.plai_builtins.proofs.Made.{one_more_variable}
use Rattle.plai_builtins.proofs.construct.new_variables.Goals as goal

pub loop-i-preserved : goal.loop-i-preserved
loop-i-preserved c = one_more_variable c.args.first c.loop-i.i c.loop-i.variables.items c.push.new.self.items c.loop-i.invariant c.in_ok-push.ensures.items
