use Rattle.plai_depth_laws.proofs.Laws.{lawful_from_one}
use Rattle.plai_depth_laws.proofs.depth_k_is_lawful.Goals as goal

pub returns : goal.returns
returns c = lawful_from_one
