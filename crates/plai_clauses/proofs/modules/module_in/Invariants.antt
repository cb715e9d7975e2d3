use Rattle.std.proofs.Common.{◌≡◌, drop}
use Rattle.plai_clauses.specs.Program.{module_in}
use Rattle.plai_clauses.proofs.modules.module_in.Given as goal

abbrev pub invariant-loop-item : goal.invariant-loop-item
invariant-loop-item l = module_in (drop l.item-index l.modules) l.name ≡ module_in l.modules l.name
