use Rattle.std.proofs.Common.{◌≡◌, ◌+◌, ◌≤◌, length, drop}
use Rattle.std.specs.Prelude.{All}
use Rattle.plai_sources.specs.WellFormed.{AreWellFormedItems}
use Rattle.plai_modules.specs.Loading.{files_from, counted_in}
use Rattle.plai_modules.proofs.Passes.{behind, texts_of}
use Rattle.plai_modules.proofs.loading.read_files.Given as goal

abbrev pub invariant-loop-i : goal.invariant-loop-i
invariant-loop-i l =
    (files_from 1 0 (texts_of l.files) ≡ behind l.read.items (files_from (l.i + 1) l.there (texts_of (drop l.i l.files))))
    × (l.there ≤ 65536) × All AreWellFormedItems l.read.items × (length l.read.items ≡ l.i) × (l.there ≡ counted_in l.read.items)
