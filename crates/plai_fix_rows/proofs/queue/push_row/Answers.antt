use Rattle.std.proofs.Common.{heap_items}
use Rattle.plai_fix_rows.proofs.Queued.{pushed_row, pushed_others}
use Rattle.plai_fix_rows.proofs.queue.push_row.Goals as goal

pub returns-clause-row : goal.returns-clause-row
returns-clause-row c = pushed_row (heap_items c.args.queue.now) (heap_items c.push.new.self) c.args.row c.in_ok-push.ensures.permutation

pub returns-clause-others : goal.returns-clause-others
returns-clause-others c = pushed_others (heap_items c.args.queue.now) (heap_items c.push.new.self) c.args.row c.in_ok-push.ensures.permutation
