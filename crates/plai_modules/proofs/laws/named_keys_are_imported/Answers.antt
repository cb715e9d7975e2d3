use Rattle.std.proofs.Common.{[]}
use Rattle.plai_modules.proofs.Imported.{named-found}
use Rattle.plai_modules.proofs.laws.named_keys_are_imported.Goals as goal

pub returns : goal.returns
returns c = λ files items imports e numbered from named file key i says there listed.
    named-found files items numbered from named file says there key listed items [] imports e i
