use Rattle.std.proofs.Common.{◌≡◌, take}
use Rattle.plai_clauses.proofs.modules.copy_modules.Given as goal

abbrev pub invariant-loop-item : goal.invariant-loop-item
invariant-loop-item l = l.copies.items ≡ take l.item-index l.modules
