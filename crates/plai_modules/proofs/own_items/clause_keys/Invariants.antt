use Rattle.std.proofs.Common.{take}
use Rattle.plai_modules.specs.Importing.{has_clause}
use Rattle.plai_modules.specs.KeySets.{IsSetOf}
use Rattle.plai_modules.proofs.own_items.clause_keys.Given as goal

abbrev pub invariant-loop-numbered : goal.invariant-loop-numbered
invariant-loop-numbered l = IsSetOf (has_clause (take l.numbered-index l.numbered-items)) l.set.keys
