use Rattle.plai_modules.proofs.OnlyImports.{only-imports}
use Rattle.plai_modules.proofs.laws.imports_are_exported.Goals as goal

pub returns : goal.returns
returns c = only-imports
