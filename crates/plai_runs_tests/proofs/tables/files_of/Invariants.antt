use Rattle.std.proofs.Common.{◌≤◌, length}
use Rattle.std.specs.Prelude.{All}
use Rattle.plai_modules.specs.declared.named_text.NamedText.{NamedText}
use Rattle.plai_runs_tests.proofs.tables.files_of.Given as goal

abbrev pub invariant-loop-text : goal.invariant-loop-text
invariant-loop-text l = (length l.files.items ≤ 10) × All (λ (file : NamedText). length file.text ≤ 1000000) l.files.items
