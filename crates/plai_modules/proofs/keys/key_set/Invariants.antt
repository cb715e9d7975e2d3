use Rattle.std.proofs.Common.{take}
use Rattle.plai_modules.specs.Importing.{is_exported}
use Rattle.plai_modules.specs.KeySets.{IsSetOf}
use Rattle.plai_modules.proofs.keys.key_set.Given as goal

abbrev pub invariant-loop-key : goal.invariant-loop-key
invariant-loop-key l = IsSetOf (is_exported (take l.key-index l.keys)) l.set.keys
