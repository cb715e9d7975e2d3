use Rattle.std.proofs.Common.{◌≡◌, map, take}
use Rattle.plai_modules.specs.Importing.{head_of_file}
use Rattle.plai_modules.proofs.exporter.exporters_of.Given as goal

abbrev pub invariant-loop-file : goal.invariant-loop-file
invariant-loop-file l = l.exporters.items ≡ map head_of_file (take l.file-index l.files)
