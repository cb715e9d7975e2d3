use Rattle.std.proofs.Common.{◌≡◌, drop}
use Rattle.plai_modules.specs.Importing.{file_of}
use Rattle.plai_modules.proofs.import.file_of.Given as goal

abbrev pub invariant-loop-file : goal.invariant-loop-file
invariant-loop-file l = file_of (drop l.file-index l.files) l.name ≡ file_of l.files l.name
