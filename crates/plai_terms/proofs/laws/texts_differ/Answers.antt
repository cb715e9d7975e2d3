use Rattle.plai_terms.proofs.PatternTexts.{patterns_differ}
use Rattle.plai_terms.proofs.laws.texts_differ.Goals as goal

pub returns : goal.returns
returns c = patterns_differ
