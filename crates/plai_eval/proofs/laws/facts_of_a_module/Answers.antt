use Rattle.plai_eval.proofs.Facts.{module_facts}
use Rattle.plai_eval.proofs.laws.facts_of_a_module.Goals as goal

pub returns : goal.returns
returns c = module_facts
