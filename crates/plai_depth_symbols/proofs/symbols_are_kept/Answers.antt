use Rattle.plai_depth_symbols.proofs.Symbols.{over_above}
use Rattle.plai_depth_symbols.proofs.Meets.{meet_over}
use Rattle.plai_depth_symbols.proofs.symbols_are_kept.Goals as goal

pub returns : goal.returns
returns c = record { above = λ signature s t p h. over_above signature p h; met = meet_over }
