use Rattle.plai_builtins.proofs.Cells.{one_more_cell}
use Rattle.plai_builtins.proofs.lists.list_items.Goals as goal

pub loop-head-preserved : goal.loop-head-preserved
loop-head-preserved c =
    one_more_cell c.loop-head.items.items c.push.new.self.items c.in-Some.head c.loop-head.rest.now c.in-Some.tail.now c.args.term.now
    c.in_ok-push.ensures.items c.in-Some.ensures c.loop-head.invariant
