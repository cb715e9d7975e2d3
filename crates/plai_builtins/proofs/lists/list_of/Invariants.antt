use Rattle.std.proofs.Common.{◌≡◌, length}
use Rattle.plai_builtins.specs.Lists.{list_of}
use Rattle.plai_builtins.proofs.Cells.{before_list}
use Rattle.plai_builtins.proofs.lists.list_of.Given as goal

abbrev pub invariant-loop-item : goal.invariant-loop-item
invariant-loop-item l = before_list l.items.items l.list ≡ list_of l.fn.items.items

abbrev pub decreases-loop-item : goal.decreases-loop-item
decreases-loop-item l = length l.items.items
