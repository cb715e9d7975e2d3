use Rattle.std.proofs.Common.{◌≡◌, take}
use Rattle.plai_modules.specs.Importing.{with_imports}
use Rattle.plai_modules.proofs.import.push_imports.Given as goal

abbrev pub invariant-loop-key : goal.invariant-loop-key
invariant-loop-key l = l.imports ≡ with_imports l.from l.initial.imports (take l.key-index l.keys)
