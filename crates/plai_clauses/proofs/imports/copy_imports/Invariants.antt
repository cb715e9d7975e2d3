use Rattle.std.proofs.Common.{◌≡◌, take}
use Rattle.plai_clauses.proofs.imports.copy_imports.Given as goal

abbrev pub invariant-loop-import : goal.invariant-loop-import
invariant-loop-import l = l.copy ≡ take l.import-index l.list
