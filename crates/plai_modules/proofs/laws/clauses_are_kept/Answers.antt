use Rattle.plai_modules.proofs.Targets.{kept}
use Rattle.plai_modules.proofs.laws.clauses_are_kept.Goals as goal

pub returns : goal.returns
returns c = kept
