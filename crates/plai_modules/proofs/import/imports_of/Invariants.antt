use Rattle.std.proofs.Common.{◌≡◌, [], drop}
use Rattle.plai_modules.specs.Steps.{steps}
use Rattle.plai_modules.specs.Importing.{behind_term}
use Rattle.plai_modules.proofs.import.imports_of.Given as goal

abbrev pub invariant-loop-numbered : goal.invariant-loop-numbered
invariant-loop-numbered l =
    steps (behind_term l.files l.items) [] l.items ≡ steps (behind_term l.files l.items) l.imports (drop l.numbered-index l.numbered-items)
